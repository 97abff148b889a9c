use Rattle.std.proofs.Common.{◌≡◌, ◌++◌, ◌∷◌, [], ◌∙◌, ap, arith, length, sym}
use Rattle.std.proofs.lemmas.Grind.{common_steps}
use Rattle.std.proofs.lemmas.List.Elements.{All-push}
use Rattle.std.proofs.lemmas.List.FromFn.{length-map-range_with_len, map-range_with_len_more}
use Rattle.variants.specs.Rows.{shift_at}
use Rattle.variants.specs.Variants.{IsSmall}
use Rattle.variants.specs.declared.change.Change.{Change}
use Rattle.variants.specs.declared.change.Change.TheVariants.{Shifted}
use Rattle.variants.proofs.rows.shifts.Goals as goal

pub loop-place-preserved : goal.loop-place-preserved
loop-place-preserved c =
    let change : Change = Shifted (record { quantity = c.args.quantity; craft = c.args.craft; value = c.value_at-value.result }) in
    let same : change ≡ shift_at c.args.quantity c.args.craft c.args.values c.loop-place.place =
    ap (λ v. Shifted (record { quantity = c.args.quantity; craft = c.args.craft; value = v })) c.value_at-value.ensures.value in
    let pushed : c.push.new.self.items ≡ c.loop-place.changes.items ++ change ∷ [] = grind (arith, common_steps) in
    record {
      items =
          pushed ∙ ap (λ x. c.loop-place.changes.items ++ x ∷ []) same ∙ ap (λ l. l ++ shift_at c.args.quantity c.args.craft c.args.values c.loop-place.place ∷ []) c.loop-place.invariant.items
          ∙ sym (map-range_with_len_more (shift_at c.args.quantity c.args.craft c.args.values) 0 c.loop-place.place c.loop-place.place (omega arith));
      small = rw pushed (All-push IsSmall c.loop-place.changes.items change c.loop-place.invariant.small c.value_at-value.ensures.small);
    }

pub returns-clause-few : goal.returns-clause-few
returns-clause-few c =
    let size = length-map-range_with_len (shift_at c.args.quantity c.args.craft c.args.values) 0 c.loop-place.place in
    omega (arith, size, ap length c.loop-place.invariant.items, c.requires.few)
