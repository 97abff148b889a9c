use Rattle.std.proofs.Common.{ℕ, sym, ap, ◌∙◌}
use Rattle.air_journal.specs.Kept.{vrc_of}
use Rattle.res_message.specs.Words.{flip_word, read_word}
use Rattle.air_journal.proofs.rows.reads.Goals as goal

pub returns-then-mask-eq0 : goal.returns-then-mask-eq0
returns-then-mask-eq0 c =
    sym c.requires ∙ ap (λ (w : ℕ). vrc_of (read_word w)) (sym (c.read_law.ensures.flip c.args.message.word))
    ∙ ap (λ (k : ℕ). vrc_of (read_word (flip_word c.args.message.word k))) (sym c.if-mask-eq0.true)
