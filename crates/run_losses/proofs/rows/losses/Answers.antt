use Rattle.std.proofs.Common.{◌≡◌, ◌≤◌, List, ◌++◌, ◌∙◌, length, ap, sym, subst}
use Rattle.std.specs.Prelude.{All}
use Rattle.run_losses.proofs.Each.{all-few, all-of-run, all-small}
use Rattle.run_losses.specs.Laws.{IsOfRun}
use Rattle.run_losses.specs.Losses.{losses_of}
use Rattle.run_losses.specs.Parts.{losses_in}
use Rattle.run_losses.specs.declared.links.Part.TheVariants.{Fronts, Singles}
use Rattle.variants.specs.Variants.{IsSmall}
use Rattle.variants.specs.declared.change.Change.{Change}
use Rattle.run_losses.proofs.rows.losses.Goals as goal

pub returns : goal.returns
returns c =
    let e = c.args.state.now.encounter in
    let J = c.args.state.now.journal in
    let is : c.add_part-2.new.changes.items ≡ losses_of e J =
    c.in_ok-add_part-2.ensures ∙ ap (λ l. l ++ losses_in e J Fronts) (c.in_ok-add_part.ensures ∙ ap (λ l. l ++ losses_in e J Singles) c.new-changes.ensures.items) in
    record {
      row = is;
      small = subst (λ (l : List Change). All IsSmall l) (sym is) (all-small e J);
      few = subst (λ (l : List Change). length l ≤ 307200) (sym is) (all-few e J c.legal_law.ensures.valid c.legal_law.ensures.legal);
      sent = subst (λ (l : List Change). All (IsOfRun e J) l) (sym is) (all-of-run e J);
    }
