use Rattle.std.proofs.Common.{ℕ, ◌++◌, ◌∷◌, [], List, get_or, sym, ap, ◌∙◌, subst}
use Rattle.std.proofs.lemmas.Grind.{flat_map-append}
use Rattle.std.proofs.lemmas.List.{append-nil, take_more}
use Rattle.std.proofs.lemmas.List.Concat.{flat_map-cons}
use Rattle.std.specs.Prelude.{flat_map, take}
use Rattle.possibilities.specs.Listing.{word_lines_at}
use Rattle.report_words.specs.declared.word.TheConstants.{ALL_WORDS}
use Rattle.report_words.specs.declared.word.Word.{Word}
use Rattle.possibilities.proofs.possibilities.Possibilities.put_words_in.Goals as goal

pub loop-at-preserved : goal.loop-at-preserved
loop-at-preserved g c =
    let f : Word → List (List ℕ) = word_lines_at c.args.self.now c.args.own c.args.cycle in
    let n = c.loop-at.at in
    subst (g.S.LineSink.took c.args.sink.now c.put.new.sink) (sym (ap (flat_map f) (take_more ALL_WORDS n _ c.loop-at-test.true) ∙ flat_map-append f (take n ALL_WORDS) (get_or ALL_WORDS n _ ∷ []) ∙ ap (λ l. flat_map f (take n ALL_WORDS) ++ l) (flat_map-cons f (get_or ALL_WORDS n _) [] ∙ append-nil (f (get_or ALL_WORDS n _)))))
    (g.met.S.LineSink.then _ _ _ _ _ c.loop-at.invariant c.put.ensures)
