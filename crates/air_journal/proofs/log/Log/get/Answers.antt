use Rattle.std.proofs.Common.{◌≡◌, ◌/◌, ◌%◌, [], get_or, slice_get, None, sym, ap, ◌∙◌, arith}
use Rattle.std.proofs.lemmas.List.{get_or_read}
use Rattle.std.proofs.lemmas.Option.{slice_get_past}
use Rattle.air_journal.specs.Pages.{Noted, joined}
use Rattle.air_journal.proofs.Paging.{paged-length, read, within}
use Rattle.air_journal.proofs.log.Log.get.Goals as goal

pub returns-then-at-self : goal.returns-then-at-self
returns-then-at-self c =
    let n = paged-length c.self.inside.pages.items c.self.inside.count c.self.invariant.filled in
    let past : slice_get (joined c.self.inside.pages.items) c.args.at ≡ None = slice_get_past (joined c.self.inside.pages.items) c.args.at (omega arith) in
    sym past ∙ ap (λ (l : Noted). slice_get l.notes c.args.at) c.self.view_is

pub index-page-requires : goal.index-page-requires
index-page-requires c = let s = within c.self.inside.pages.items c.self.inside.count c.args.at c.self.invariant.filled (omega arith) in omega (arith, c.self.inside.pages.ok.0)

pub returns : goal.returns
returns c =
    let s = within c.self.inside.pages.items c.self.inside.count c.args.at c.self.invariant.filled (omega arith) in
    let page : c.index-page.result.now ≡ get_or c.self.inside.pages.items (c.args.at / 1024) [] = get_or_read c.self.inside.pages.items (c.args.at / 1024) _ s c.index-page.ensures [] in
    c.get.ensures ∙ ap (λ p. slice_get p (c.args.at % 1024)) page ∙ sym (read c.self.inside.pages.items c.self.inside.count c.args.at c.self.invariant.filled (omega arith))
    ∙ ap (λ (l : Noted). slice_get l.notes c.args.at) c.self.view_is
