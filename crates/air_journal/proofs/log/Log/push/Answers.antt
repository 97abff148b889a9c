use Rattle.std.proofs.Common.{◌≡◌, ◌*◌, ◌/◌, ◌≤◌, [], ◌∷◌, ◌++◌, length, get_or, set, sym, ap, ◌∙◌, subst, arith}
use Rattle.std.proofs.lemmas.List.{get_or_read, length-set}
use Rattle.air_journal.specs.Pages.{Noted, joined}
use Rattle.air_journal.proofs.Paging.{page-free, write, room}
use Rattle.air_journal.proofs.log.Log.push.Goals as goal

open_page : goal.index_mut-requires
open_page c = omega (arith, c.self.inside.pages.ok.0, (page-free c.self.inside.pages.items c.self.inside.count c.self.invariant.filled (room c.self.inside.pages.items c.self.inside.count c.args.self.now c.self.invariant.filled c.self.view_is c.requires)).0)

pub index_mut-requires : goal.index_mut-requires
index_mut-requires c = open_page c

pub push-requires : goal.push-requires
push-requires c =
    let r = room c.self.inside.pages.items c.self.inside.count c.args.self.now c.self.invariant.filled c.self.view_is c.requires in
    let f = page-free c.self.inside.pages.items c.self.inside.count c.self.invariant.filled r in
    let q : c.index_mut.result.now ≡ get_or c.self.inside.pages.items (c.self.inside.count / 1024) [] = get_or_read c.self.inside.pages.items (c.self.inside.count / 1024) _ f.0 c.index_mut.ensures.value [] in
    let n : length c.index_mut.result.now ≡ length (get_or c.self.inside.pages.items (c.self.inside.count / 1024) []) = ap length q in
    omega (arith, f.1)

pub overflow_add-self : goal.overflow_add-self
overflow_add-self c =
    let r = room c.self.inside.pages.items c.self.inside.count c.args.self.now c.self.invariant.filled c.self.view_is c.requires in
    omega (arith, c.self.invariant.few)

pub invariant_of-self : goal.invariant_of-self
invariant_of-self c =
    let r = room c.self.inside.pages.items c.self.inside.count c.args.self.now c.self.invariant.filled c.self.view_is c.requires in
    let f = page-free c.self.inside.pages.items c.self.inside.count c.self.invariant.filled r in
    let q = get_or_read c.self.inside.pages.items (c.self.inside.count / 1024) _ f.0 c.index_mut.ensures.value [] in
    let p : c.push.new.self ≡ get_or c.self.inside.pages.items (c.self.inside.count / 1024) [] ++ c.args.note ∷ [] = c.push.ensures ∙ ap (λ x. x ++ c.args.note ∷ []) q in
    rw p (record { filled = (write c.self.inside.pages.items c.self.inside.count c.args.note c.self.invariant.filled r).0; few = subst (λ n. n ≤ 1000000) (sym (length-set c.self.inside.pages.items _ _)) c.self.invariant.few })

pub returns-clause-notes : goal.returns-clause-notes
returns-clause-notes c =
    let r = room c.self.inside.pages.items c.self.inside.count c.args.self.now c.self.invariant.filled c.self.view_is c.requires in
    let f = page-free c.self.inside.pages.items c.self.inside.count c.self.invariant.filled r in
    let q = get_or_read c.self.inside.pages.items (c.self.inside.count / 1024) _ f.0 c.index_mut.ensures.value [] in
    let p : c.push.new.self ≡ get_or c.self.inside.pages.items (c.self.inside.count / 1024) [] ++ c.args.note ∷ [] = c.push.ensures ∙ ap (λ x. x ++ c.args.note ∷ []) q in
    ap (λ x. joined (set c.self.inside.pages.items (c.self.inside.count / 1024) x)) p ∙ (write c.self.inside.pages.items c.self.inside.count c.args.note c.self.invariant.filled r).1
    ∙ ap (λ (l : Noted). l.notes ++ c.args.note ∷ []) c.self.view_is

pub returns-clause-room : goal.returns-clause-room
returns-clause-room c = ap (λ n. n * 1024) (length-set c.self.inside.pages.items _ _) ∙ ap (λ (l : Noted). l.room) c.self.view_is
