use Rattle.std.proofs.Common.{rules, ap, ◌∙◌, ◌+◌, arith}
use Rattle.air_rules.specs.Journal.{commits}
use Rattle.air_turn.specs.Turns.{commit_growth}
use Rattle.craft_worker.proofs.Counting.{commits-then, no-growth}
use Rattle.craft_worker.proofs.Working.{committed-after, ready-after}
use Rattle.craft_worker.proofs.worker.Worker.commit.Goals as goal

pub look_on-requires : goal.look_on-requires
look_on-requires g c =
    let s = c.args.self.now.seat in
    committed-after _ _ c.args.self.now c.commit-answer.new.seat c.requires.ready c.requires.left c.commit-answer.ensures.same
    (commits-then _ _ c.commit-answer.result c.commit-answer.ensures ∙ ap (λ a. commits s.front s.own + commit_growth a) c.in-Done.is)

pub returns-in_default : goal.returns-in_default
returns-in_default g c =
    let s = c.args.self.now.seat in
    let none = no-growth c.commit-answer.result c.in_default.not-Done in
    let count = commits-then _ _ c.commit-answer.result c.commit-answer.ensures in
    record {
      same = c.commit-answer.ensures.same;
      ready = ready-after _ _ c.args.self.now c.commit-answer.new.seat c.requires.ready c.commit-answer.ensures.same (omega (arith, none, count));
      done = search rules;
    }
