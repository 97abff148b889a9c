use Rattle.std.proofs.Common.{◌≡◌, ◌∷◌, [], ℕ, List, false, subst}
use Rattle.fault_text.specs.Lines.{IsFirstLine, lines_after}
use Rattle.fault_text.proofs.FirstLine.{first-all, first-at}
use Rattle.fault_text.proofs.FirstPart.{cut-all, cut-at}
use Rattle.fault_text.proofs.lines.cut.Goals as goal

pub returns-in-Some-clause-first : goal.returns-in-Some-clause-first
returns-in-Some-clause-first c = rw c.split_at.ensures.front (first-at c.args.bytes.now c.behind_end.result.now c.in-Some.at c.in-Some.ensures.0.high (λ k low below. c.in-Some.ensures.0.before k low below) (subst (λ (t : List ℕ). lines_after false t ≡ [] ∷ lines_after false c.behind_end.result.now) c.split_at.ensures.back c.behind_end.ensures.lines))

pub returns-in-None-clause-first : goal.returns-in-None-clause-first
returns-in-None-clause-first c = first-all c.args.bytes.now c.requires (λ k low below. c.in-None.ensures k low below)

pub returns-in-Some-clause-cut : goal.returns-in-Some-clause-cut
returns-in-Some-clause-cut c = rw c.split_at.ensures.front (cut-at c.args.bytes.now c.behind_end.result.now c.in-Some.at c.in-Some.ensures.0.high (λ k low below. c.in-Some.ensures.0.before k low below) (subst (λ (t : List ℕ). IsFirstLine t [] c.behind_end.result.now) c.split_at.ensures.back c.behind_end.ensures.first))

pub returns-in-None-clause-cut : goal.returns-in-None-clause-cut
returns-in-None-clause-cut c = cut-all c.args.bytes.now c.requires (λ k low below. c.in-None.ensures k low below)
