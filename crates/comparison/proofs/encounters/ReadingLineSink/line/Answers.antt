use Rattle.std.proofs.Common.{◌≡◌, ◌∷◌, ◌++◌, [], Bool, List, ℕ, Some, None, true, sym, ap, ◌∙◌, subst}
use Rattle.std.proofs.lemmas.Bool.Decides.{Decides-eqb}
use Rattle.std.proofs.lemmas.Slice.Eq.{strip_prefix_is}
use Rattle.comparison.proofs.Differing.{found-one, stopped-one}
use Rattle.comparison.specs.Texts.{Compares}
use Rattle.comparison.proofs.encounters.ReadingLineSink.line.Goals as goal

pub returns-in-Some : goal.returns-in-Some
returns-in-Some c =
    let text = c.args.self.now.rest.now in
    let line = c.args.line.now in
    let rest = c.in-Some.rest.now in
    let front = strip_prefix_is Decides-eqb text c.bytes.result.now (Some c.in-Some.rest) c.in-Some.ensures.cases in
    let is : text ≡ line ++ rest = front ∙ ap (λ (t : List ℕ). t ++ rest) c.bytes.ensures.bytes in
    subst (λ (d : Bool). Compares text rest d d (line ∷ [])) (sym c.if-self.false) (found-one text rest line is)

pub returns-in-None : goal.returns-in-None
returns-in-None c =
    let text = c.args.self.now.rest.now in
    let line = c.args.line.now in
    let none = strip_prefix_is Decides-eqb text c.bytes.result.now None c.in-None.ensures.cases in
    subst (λ (d : Bool). Compares text text d true (line ∷ [])) (sym c.if-self.false) (stopped-one text line (λ rest e. none rest (e ∙ ap (λ (t : List ℕ). t ++ rest) (sym c.bytes.ensures.bytes))))
