use Rattle.acas_lines.proofs.FirstLine.{first-all, first-at, rest-all, rest-at}
use Rattle.acas_lines.proofs.split.first_line_len.Goals as goal

pub returns-in-Some-clause-first : goal.returns-in-Some-clause-first
returns-in-Some-clause-first c = first-at c.args.text.now c.in-Some.at c.in-Some.ensures.0.high (λ k low below. c.in-Some.ensures.0.before k low below) c.in-Some.ensures.1

pub returns-in-Some-clause-rest : goal.returns-in-Some-clause-rest
returns-in-Some-clause-rest c = rest-at c.args.text.now c.in-Some.at c.in-Some.ensures.0.high (λ k low below. c.in-Some.ensures.0.before k low below) c.in-Some.ensures.1

pub returns-in-None-clause-first : goal.returns-in-None-clause-first
returns-in-None-clause-first c = first-all c.args.text.now c.requires (λ k low below. c.in-None.ensures k low below)

pub returns-in-None-clause-rest : goal.returns-in-None-clause-rest
returns-in-None-clause-rest c = rest-all c.args.text.now c.requires (λ k low below. c.in-None.ensures k low below)
