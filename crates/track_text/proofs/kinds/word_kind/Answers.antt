use Rattle.std.proofs.Common.{◌≡◌, ◌∙◌, sym, false}
use Rattle.std.specs.Prelude.{codes}
use Rattle.std.specs.Str.{bytes_eq}
use Rattle.track_text.proofs.LineKinds.{shared-named}
use Rattle.track_text.proofs.kinds.word_kind.Goals as goal

pub returns-in-Some : goal.returns-in-Some
returns-in-Some c =
    let point : bytes_eq c.args.word.now (codes "at") ≡ false = rw c.as_slice.ensures at (sym c.eq.ensures ∙ c.if-eq.false) in
    let craft : bytes_eq c.args.word.now (codes "craft") ≡ false = rw c.as_slice-2.ensures at (sym c.eq-2.ensures ∙ c.if-eq-2.false) in
    let leg : bytes_eq c.args.word.now (codes "leg") ≡ false = rw c.as_slice-3.ensures at (sym c.eq-3.ensures ∙ c.if-eq-3.false) in
    shared-named c.args.version c.args.word.now c.in-Some.kind point craft leg c.in-Some.ensures
