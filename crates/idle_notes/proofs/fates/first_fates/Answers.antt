use Rattle.std.specs.Prelude.{get_or, set}
use Rattle.std.proofs.Common.{◌≡◌, ℕ, ◌∙◌, ap, sym, refl, arith, inl, inr}
use Rattle.std.proofs.lemmas.Bool.{cases_eq}
use Rattle.std.proofs.lemmas.List.{get_or-set_other, get_or-set_same, length-set}
use Rattle.idle_notes.specs.Messages.{first_idle}
use Rattle.idle_notes.specs.Sources.{encounter_in, journal_in}
use Rattle.idle_notes.proofs.fates.first_fates.Goals as goal

pub loop-pair-preserved : goal.loop-pair-preserved
loop-pair-preserved c =
    let e = encounter_in c.args.source.now in
    let journal = journal_in c.args.source.now in
    let firsts = c.loop-pair.firsts in
    let pair = c.loop-pair.pair in
    let size = c.loop-pair.invariant.size in
    record {
      size = length-set firsts pair c.first_idle.result ∙ size;
      each = λ i d below. elim (cases_eq i pair) [
        | inl same ↦
            ap (λ (n : ℕ). get_or (set firsts pair c.first_idle.result) n d) same
            ∙ get_or-set_same firsts pair c.first_idle.result d (let t = c.loop-pair-test.true in omega arith)
            ∙ c.first_idle.ensures ∙ ap (first_idle e journal) (sym same)
        | inr other ↦
            get_or-set_other firsts pair i c.first_idle.result d (λ (s : i ≡ pair). absurd (omega arith))
            ∙ c.loop-pair.invariant.each i d (omega arith)
      ];
    }

pub returns : goal.returns
returns c i d within = c.loop-pair.invariant.each i d (omega (arith, c.loop-pair-test.false))
