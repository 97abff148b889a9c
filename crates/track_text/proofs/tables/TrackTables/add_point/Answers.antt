use Rattle.std.proofs.Common.{◌≡◌, ◌∙◌, FitsSigned, Global, w32, None, Some, Vec, ap, arith, subst, sym}
use Rattle.std.specs.List.{list_any}
use Rattle.std.specs.Prelude.{neg_ℤ, pos}
use Rattle.std.proofs.lemmas.Int.{to_z-of_z}
use Rattle.enc_file.specs.declared.refusal.Code.TheVariants as code
use Rattle.track_file.proofs.Placed.{fits-within}
use Rattle.track_file.specs.Track.{IsTrack, is_from}
use Rattle.track_file.specs.declared.track.Point.{Point}
use Rattle.track_text.specs.Earlier.{shared_of, track_of}
use Rattle.track_text.specs.Tables.{IsFirstFault}
use Rattle.track_text.specs.declared.record.TrackRecord.TheVariants.{At}
use Rattle.track_text.specs.declared.refusal.Fault.TheVariants.{Text}
use Rattle.track_text.proofs.Kept.{refuses, wanting}
use Rattle.track_text.proofs.Pointed.{craft-within, found-in, point-added, point-late, point-unknown}
use Rattle.track_text.proofs.tables.TrackTables.add_point.Goals as goal

pub returns-in_default : goal.returns-in_default
returns-in_default c = λ earlier begun kept.
    let found = found-in earlier c.crafts.result.now c.args.address None begun (c.crafts.ensures (shared_of earlier) kept.tables) (sym c.index_of.ensures ∙ c.in_default.is) in
    refuses earlier c.args.self.now (IsFirstFault earlier (At c.args.address c.args.point)) (Text code.Unknown) c.refused.result kept.count (point-unknown earlier c.args.address c.args.point found) c.refused.ensures

pub index-requires : goal.index-requires
index-requires c =
    let earlier = c.requires.kept.0 in
    let kept = c.requires.kept.1 in
    let within = craft-within earlier c.args.self.now c.crafts.result.now c.args.address c.in-Some.craft kept (c.crafts.ensures (shared_of earlier) kept.tables) (sym c.index_of.ensures ∙ c.in-Some.is) in
    omega (arith, within, kept.many)

pub is_since-requires : goal.is_since-requires
is_since-requires c =
    let earlier = c.requires.kept.0 in
    let kept = c.requires.kept.1 in
    let within = craft-within earlier c.args.self.now c.crafts.result.now c.args.address c.in-Some.craft kept (c.crafts.ensures (shared_of earlier) kept.tables) (sym c.index_of.ensures ∙ c.in-Some.is) in
    subst IsTrack (sym c.as_slice.ensures.value) (subst (λ (v : Vec Point Global). IsTrack v.items) (sym c.index.ensures) (kept.rising c.in-Some.craft c.index.result.now (omega (arith, within, kept.many))))

pub returns-then-is_since : goal.returns-then-is_since
returns-then-is_since c = λ earlier begun kept.
    let crafts = c.crafts.ensures (shared_of earlier) kept.tables in
    let at = sym c.index_of.ensures ∙ c.in-Some.is in
    let within = craft-within earlier c.args.self.now c.crafts.result.now c.args.address c.in-Some.craft kept crafts at in
    let items : c.as_slice.result.now ≡ track_of c.in-Some.craft earlier = c.as_slice.ensures.value ∙ ap (λ (v : Vec Point Global). v.items) c.index.ensures ∙ kept.points c.in-Some.craft c.index.result.now within in
    let fits : FitsSigned w32 c.args.point.ms = fits-within (neg_ℤ (pos 1000000)) (pos 1000000) c.args.point.ms (omega arith) (omega arith) c.requires.point.ms in
    let late = ap (list_any (is_from c.args.point.ms)) (sym items) ∙ sym (rw (to_z-of_z w32 c.args.point.ms fits) at c.is_since.ensures) ∙ c.if-is_since.true in
    refuses earlier c.args.self.now (IsFirstFault earlier (At c.args.address c.args.point)) (Text code.Repeat) c.refused-then-is_since.result kept.count
    (point-late earlier c.args.address c.in-Some.craft c.args.point _ (found-in earlier c.crafts.result.now c.args.address (Some c.in-Some.craft) begun crafts at) late) c.refused-then-is_since.ensures

pub index_mut-requires : goal.index_mut-requires
index_mut-requires c =
    let earlier = c.requires.kept.0 in
    let kept = c.requires.kept.1 in
    let within = craft-within earlier c.args.self.now c.crafts.result.now c.args.address c.in-Some.craft kept (c.crafts.ensures (shared_of earlier) kept.tables) (sym c.index_of.ensures ∙ c.in-Some.is) in
    omega (arith, within, kept.many)

pub returns-in_err-push : goal.returns-in_err-push
returns-in_err-push c = λ earlier begun kept. wanting _ _ _ c.from_residual.result c.from_residual.ensures.1

pub returns : goal.returns
returns c = λ earlier begun kept.
    let crafts = c.crafts.ensures (shared_of earlier) kept.tables in
    let at = sym c.index_of.ensures ∙ c.in-Some.is in
    let within = craft-within earlier c.args.self.now c.crafts.result.now c.args.address c.in-Some.craft kept crafts at in
    let items : c.as_slice.result.now ≡ track_of c.in-Some.craft earlier = c.as_slice.ensures.value ∙ ap (λ (v : Vec Point Global). v.items) c.index.ensures ∙ kept.points c.in-Some.craft c.index.result.now within in
    let fits : FitsSigned w32 c.args.point.ms = fits-within (neg_ℤ (pos 1000000)) (pos 1000000) c.args.point.ms (omega arith) (omega arith) c.requires.point.ms in
    let early = ap (list_any (is_from c.args.point.ms)) (sym items) ∙ sym (rw (to_z-of_z w32 c.args.point.ms fits) at c.is_since.ensures) ∙ c.if-is_since.false in
    let was = ap (λ (v : Vec Point Global). v.items) c.index_mut.ensures.value ∙ kept.points c.in-Some.craft c.index_mut.result.now within in
    let track = subst (λ (v : Vec Point Global). IsTrack v.items) (sym c.index_mut.ensures.value) (kept.rising c.in-Some.craft c.index_mut.result.now (omega (arith, within, kept.many))) in
    point-added earlier c.args.self.now c.args.address c.in-Some.craft c.args.point c.index_mut.result.now c.push.new.self kept begun c.requires.point
    (found-in earlier c.crafts.result.now c.args.address (Some c.in-Some.craft) begun crafts at) within was c.in_ok-push.ensures.items track early
