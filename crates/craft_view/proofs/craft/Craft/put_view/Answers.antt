use Rattle.std.proofs.Common.{◌≡◌, ◌<◌, false, length, get_or, ◌∙◌, sym, ap, rules}
use Rattle.std.specs.Option.{option_copied}
use Rattle.craft_view.specs.Kept.{Kept, kept_of}
use Rattle.craft_view.specs.KnownTracks.{no_tracks}
use Rattle.craft_view.proofs.Showing.{shown-plain}
use Rattle.craft_view.proofs.Stepping.{read-or}
use Rattle.craft_view.proofs.Viewing.{view-none, view-other}
use Rattle.craft_view.specs.Views.{asks_for, shown}
use Rattle.craft_view.proofs.craft.Craft.put_view.Goals as goal

pub returns-else-is_other : goal.returns-else-is_other
returns-else-is_other c =
    c.put_no_view.ensures ∙ sym (shown-plain (asks_for (option_copied c.args.before) c.args.target) false false false)
    ∙ ap (shown (asks_for (option_copied c.args.before) c.args.target)) (view-none c.args.encounter.now c.args.self.now.own c.args.self.now.cycle c.args.target (search rules))

pub returns-then-is_other : goal.returns-then-is_other
returns-then-is_other c =
    let e = c.args.encounter.now in
    let kept = c.args.self.now in
    let tracks = c.self.inside.tracks in
    let at = c.from.result in
    let item = c.index-self-from.result in
    let within : at < length tracks = search rules in
    let read : get_or tracks at item ≡ kept_of kept c.args.target =
    read-or tracks at item no_tracks within c.index-self-from.is
    ∙ ap (λ k. get_or tracks k no_tracks) c.from.ensures
    ∙ ap (λ (k : Kept). kept_of k c.args.target) c.self.view_is in
    c.put_view.ensures
    ∙ ap (shown (asks_for (option_copied c.args.before) c.args.target)) (view-other e kept.own kept.cycle c.args.target c.args.own.now c.self.inside.altitude (get_or tracks at item) c.requires.own
    (ap (λ (k : Kept). k.altitude) c.self.view_is ∙ c.requires.belongs.altitude)
    (read ∙ c.requires.belongs.tracks c.args.target c.requires.target)
    (search rules))
