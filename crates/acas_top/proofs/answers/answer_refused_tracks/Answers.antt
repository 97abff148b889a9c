use Rattle.std.proofs.Common.{◌++◌, [], List, ℕ, ap₂, subst, sym}
use Rattle.std.proofs.lemmas.List.{append-nil}
use Rattle.acas_top.specs.Refusing.{refused_line}
use Rattle.acas_top.specs.Answers.{IsFaulty}
use Rattle.acas_top.specs.declared.explaining.Subject.{Subject}
use Rattle.acas_top.proofs.answers.answer_refused_tracks.Goals as goal

pub returns : goal.returns
returns c =
    let refusal = c.args.refusal in
    subst (λ (kind : Subject). IsFaulty kind c.args.bytes.now (refused_line refusal.at c.number-number.result ++ (c.explained-told.result ++ []))) (sym c.requires.subject)
    (record {
      refusal = refusal;
      is = c.requires.refused;
      line = c.explained-told.result;
      explained = c.explained-told.ensures;
      text_is = ap₂ (λ (code : ℕ) (told : List ℕ). refused_line refusal.at code ++ told) c.number-number.ensures (append-nil c.explained-told.result);
    })
