use Rattle.std.proofs.Common.{◌++◌, ◌∷◌, [], ◌∙◌, ap, arith, length, sym}
use Rattle.variants.proofs.Few.{few-by}
use Rattle.variants.proofs.Pairs.{by-more}
use Rattle.variants.specs.Rows.{exchanges_by}
use Rattle.variants.proofs.rows.exchanges.Goals as goal

pub loop-index-preserved : goal.loop-index-preserved
loop-index-preserved c =
    let crafts = c.args.crafts.now in
    let k = c.loop-index.index in
    record {
      items = c.in_ok-add_exchanges_of.ensures.added ∙ ap (λ l. l ++ exchanges_by crafts (k ∷ [])) c.loop-index.invariant.items ∙ sym (by-more crafts k);
      small = c.in_ok-add_exchanges_of.ensures.small c.loop-index.invariant.small;
    }

pub returns-clause-few : goal.returns-clause-few
returns-clause-few c =
    let few = few-by c.args.crafts.now c.loop-index.index (omega arith) c.requires in
    omega (arith, few, ap length c.loop-index.invariant.items)
