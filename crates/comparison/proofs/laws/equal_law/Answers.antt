use Rattle.comparison.proofs.Equality.{equal-law}
use Rattle.comparison.proofs.laws.equal_law.Goals as goal

pub returns : goal.returns
returns c = λ found is.
    equal-law c.args.one.now c.args.other.now found (c.canonical_text_law.ensures _ c.legal_law.ensures.valid c.legal_law.ensures.inside)
    (c.canonical_text_law.ensures _ c.legal_law-2.ensures.valid c.legal_law-2.ensures.inside) is
