use Rattle.std.proofs.Common.{rules, ◌≡◌, ◌<◌, ◌+◌, ◌++◌, List, ℕ, [], ◌∷◌, length, ap, sym, subst, ◌∙◌}
use Rattle.std.specs.Prelude.{All}
use Rattle.std.proofs.lemmas.List.Elements.{All-push}
use Rattle.craft_view.specs.Kept.{IsActive}
use Rattle.air_turn.specs.Rule.{active_of}
use Rattle.air_turn.proofs.Actives.{active_from, found-all, found-none, found-one, from-first}
use Rattle.air_turn.proofs.opening.actives.Goals.{then-is_active, else-is_active}
use Rattle.air_turn.proofs.opening.actives.Goals as goal

pub loop-own-init : goal.loop-own-init
loop-own-init c =
    let e = c.args.enc.now in
    record {
      all = ap (λ owns. owns ++ active_from e 0) c.in_ok-owns.ensures.items ∙ from-first e;
      active = search rules;
      few = search rules;
      room = search rules;
    }

pub loop-own-preserved : goal.loop-own-preserved
loop-own-preserved c =
    let e = c.args.enc.now in
    let own = c.loop-own.own in
    let owns = c.loop-own.owns.items in
    let less : own < length e.crafts = search rules in
    elim c.if-is_active.branch [
      | then-is_active w ↦ (let active : IsActive e own = c.is_active.ensures.0 w.if-is_active.true in
          let is : c.if-is_active.owns.items ≡ owns ++ own ∷ [] = search rules in
          record {
            all = found-one e owns c.if-is_active.owns.items own less active c.loop-own.invariant.all is;
            active = subst (All (IsActive e)) (sym is) (All-push (IsActive e) owns own c.loop-own.invariant.active active);
            few = search rules;
            room = search rules;
          })
      | else-is_active w ↦ (let same : c.if-is_active.owns.items ≡ owns = search rules in
          record {
            all = subst (λ (l : List ℕ). l ++ active_from e (own + 1) ≡ active_of e) (sym same) (found-none e owns own less (search rules) c.loop-own.invariant.all);
            active = subst (All (IsActive e)) (sym same) c.loop-own.invariant.active;
            few = search rules;
            room = search rules;
          })
    ]

pub returns-clause-value : goal.returns-clause-value
returns-clause-value c = found-all _ _ _ (search rules) c.loop-own.invariant.all
