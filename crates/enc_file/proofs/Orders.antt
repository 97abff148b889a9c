-- The orders of an encounter's lists, and the groups of their records: one aircraft, or one pair.
use Rattle.std.proofs.Common.{◌≡◌, ℕ, ◌*◌, ◌<◌, ◌≤◌, Bool, true, arith}
use Rattle.std.proofs.lemmas.Bool.Decides.{nat_tests}
use Rattle.acas_base.specs.Encounter.{IsCall, IsFate, IsLeg, IsMiss, IsPair, IsPlan}
use Rattle.acas_base.specs.Order.{call_below, fate_below, is_below, leg_below, miss_below, plan_below}
use Rattle.acas_base.specs.declared.TheConstants.{CRAFTS}
use Rattle.acas_base.proofs.KeyOrder.{below-trans}
use Rattle.enc_file.specs.Earlier.{call_group, fate_group, leg_group, miss_group, pair_number, plan_group}

-- What fits goes on in order, and stands as its groups stand.
pub record IsOrder {X : Type 0} (Fits : X → Type 0) (group : X → ℕ) (groups : ℕ) (below : X → X → Bool) : Type 0 where
  pub trans : (a b c : X) → Fits b → below a b ≡ true → below b c ≡ true → below a c ≡ true
  pub few : (a : X) → Fits a → group a < groups
  pub rises : (a b : X) → Fits a → Fits b → below a b ≡ true → group a ≤ group b
  pub between : (a b : X) → Fits a → Fits b → group a < group b → below a b ≡ true

span-trans : (a b c d e f from g h i : ℕ) → f ≤ from → is_below (a, b, c) (d, e, f) ≡ true → is_below (d, e, from) (g, h, i) ≡ true → is_below (a, b, c) (g, h, i) ≡ true
span-trans a b c d e f from g h i order one two = grind (arith, nat_tests)

craft-rises : (a c d f : ℕ) → is_below (a, 0, c) (d, 0, f) ≡ true → a ≤ d
craft-rises a c d f h = grind (arith, nat_tests)

craft-between : (a c d f : ℕ) → a < d → is_below (a, 0, c) (d, 0, f) ≡ true
craft-between a c d f h = grind (arith, nat_tests)

pair-rises : (a b c d e f : ℕ) → b < 16 → is_below (a, b, c) (d, e, f) ≡ true → pair_number a b ≤ pair_number d e
pair-rises a b c d e f small h = grind (arith, nat_tests)

pair-between : (a b c d e f : ℕ) → b < 16 → e < 16 → pair_number a b < pair_number d e → is_below (a, b, c) (d, e, f) ≡ true
pair-between a b c d e f small other h = grind (arith, nat_tests)

-- The number of a pair is below that of all pairs.
pub pair-within : (count a b : ℕ) → count ≤ CRAFTS → IsPair count a b → pair_number a b < CRAFTS * CRAFTS
pair-within count a b few two = omega (arith, few, two.first, two.second)

pub call-order : (count : ℕ) → count ≤ CRAFTS → IsOrder (IsCall count) call_group CRAFTS call_below
call-order count small = record {
  trans = λ a b c _ one two. below-trans a.craft 0 0 b.craft 0 0 c.craft 0 0 one two;
  few = λ a h. omega (arith, h.craft);
  rises = λ a b _ _ k. craft-rises a.craft 0 b.craft 0 k;
  between = λ a b _ _ k. craft-between a.craft 0 b.craft 0 k;
}

pub leg-order : (count : ℕ) → count ≤ CRAFTS → IsOrder (IsLeg count) leg_group CRAFTS leg_below
leg-order count small = record {
  trans = λ a b c _ one two. below-trans a.craft 0 a.from b.craft 0 b.from c.craft 0 c.from one two;
  few = λ a h. omega (arith, h.craft);
  rises = λ a b _ _ k. craft-rises a.craft a.from b.craft b.from k;
  between = λ a b _ _ k. craft-between a.craft a.from b.craft b.from k;
}

pub miss-order : (count : ℕ) → count ≤ CRAFTS → IsOrder (IsMiss count) miss_group (CRAFTS * CRAFTS) miss_below
miss-order count small = record {
  trans = λ a b c h one two. span-trans a.own a.target a.to b.own b.target b.from b.to c.own c.target c.from h.order one two;
  few = λ a h. pair-within count a.own a.target small h.pair;
  rises = λ a b h _ k. pair-rises a.own a.target a.to b.own b.target b.from (omega (arith, h.pair.second)) k;
  between = λ a b h i k. pair-between a.own a.target a.to b.own b.target b.from (omega (arith, h.pair.second)) (omega (arith, i.pair.second)) k;
}

pub plan-order : (count : ℕ) → count ≤ CRAFTS → IsOrder (IsPlan count) plan_group (CRAFTS * CRAFTS) plan_below
plan-order count small = record {
  trans = λ a b c _ one two. below-trans a.sender a.receiver 0 b.sender b.receiver 0 c.sender c.receiver 0 one two;
  few = λ a h. pair-within count a.sender a.receiver small h.pair;
  rises = λ a b h _ k. pair-rises a.sender a.receiver 0 b.sender b.receiver 0 (omega (arith, h.pair.second)) k;
  between = λ a b h i k. pair-between a.sender a.receiver 0 b.sender b.receiver 0 (omega (arith, h.pair.second)) (omega (arith, i.pair.second)) k;
}

pub fate-order : (count : ℕ) → count ≤ CRAFTS → IsOrder (IsFate count) fate_group (CRAFTS * CRAFTS) fate_below
fate-order count small = record {
  trans = λ a b c _ one two. below-trans a.sender a.receiver a.number b.sender b.receiver b.number c.sender c.receiver c.number one two;
  few = λ a h. pair-within count a.sender a.receiver small h.pair;
  rises = λ a b h _ k. pair-rises a.sender a.receiver a.number b.sender b.receiver b.number (omega (arith, h.pair.second)) k;
  between = λ a b h i k. pair-between a.sender a.receiver a.number b.sender b.receiver b.number (omega (arith, h.pair.second)) (omega (arith, i.pair.second)) k;
}
