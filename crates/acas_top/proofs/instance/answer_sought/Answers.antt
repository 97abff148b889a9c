use Rattle.std.proofs.Common.{append-nil, inl, inr, subst, ◌∙◌, List}
use Rattle.acas_base.specs.declared.entry.Entry.{Entry}
use Rattle.instances.specs.Having.{Has}
use Rattle.pair_ways.specs.Asked.{IsCovered}
use Rattle.acas_top.proofs.instance.answer_sought.Goals as goal

pub returns-then-excludes-clause-shows : goal.returns-then-excludes-clause-shows
returns-then-excludes-clause-shows c = inr (inl (record {
  never = subst (λ scope. (journal : List Entry) → IsCovered scope c.args.possible.now.encounter journal → Has journal c.args.sought → ⊥) c.requires.scope (c.excludes.ensures c.if-excludes.true);
  text_is = append-nil c.word_line.result ∙ c.word_line.ensures;
}))
