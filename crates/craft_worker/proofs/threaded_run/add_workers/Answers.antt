use Rattle.std.proofs.Common.{◌≡◌, ◌++◌, ◌∷◌, [], length, map, ap, sym, subst, ◌∙◌, arith, length-append}
use Rattle.std.specs.Prelude.{All}
use Rattle.std.specs.Vec.Iter.{into_iter_items}
use Rattle.std.proofs.lemmas.List.Elements.{All-push}
use Rattle.air_turn.specs.Seats.{IsSeatOf, SeatState}
use Rattle.craft_worker.specs.Workers.{IsReady, seat_of}
use Rattle.craft_worker.proofs.AllWorkers.{holds-there, workers-more}
use Rattle.craft_worker.proofs.threaded_run.add_workers.Goals as goal

pub new-requires-clause-of : goal.new-requires-clause-of
new-requires-clause-of c =
    let ws = c.loop-seat.workers.items in
    let split = sym c.loop-seat.invariant.seats ∙ ap (λ l. map seat_of ws ++ l) c.in-Some.ensures.items in
    holds-there (IsSeatOf c.args.air.now) c.args.seats.items (map seat_of ws) (into_iter_items c.next.new.self) c.in-Some.seat c.requires.all.of split

pub new-requires-clause-encounter : goal.new-requires-clause-encounter
new-requires-clause-encounter c =
    let ws = c.loop-seat.workers.items in
    let split = sym c.loop-seat.invariant.seats ∙ ap (λ l. map seat_of ws ++ l) c.in-Some.ensures.items in
    (holds-there (IsSeatOf c.args.air.now) c.args.seats.items (map seat_of ws) (into_iter_items c.next.new.self) c.in-Some.seat c.requires.all.of split).encounter ∙ c.requires.encounter

pub new-requires-clause-front : goal.new-requires-clause-front
new-requires-clause-front c =
    let ws = c.loop-seat.workers.items in
    let split = sym c.loop-seat.invariant.seats ∙ ap (λ l. map seat_of ws ++ l) c.in-Some.ensures.items in
    holds-there (λ (z : SeatState). z.front ≡ []) c.args.seats.items (map seat_of ws) (into_iter_items c.next.new.self) c.in-Some.seat c.requires.fronts split

pub loop-seat-preserved : goal.loop-seat-preserved
loop-seat-preserved c =
    let e = c.args.enc.now in
    let air = c.args.air.now in
    let ws = c.loop-seat.workers.items in
    let us = c.push_reserved.new.self.items in
    let rest = into_iter_items c.next.new.self in
    let split = sym c.loop-seat.invariant.seats ∙ ap (λ l. map seat_of ws ++ l) c.in-Some.ensures.items in
    let to : us ≡ ws ++ c.new.result ∷ [] = c.push_reserved.ensures.items in
    let longer = ap length to ∙ length-append ws (c.new.result ∷ []) in
    let shorter = ap length c.in-Some.ensures.items in
    let count = c.loop-seat.invariant.count in
    let room = c.loop-seat.invariant.room in
    let less = c.in-Some.ensures.len in
    let same = c.push_reserved.ensures.capacity in
    record {
      seats = workers-more c.args.seats.items ws us c.new.result c.in-Some.seat rest (sym split) c.new.ensures.seat to;
      count = omega (arith, count, shorter, less);
      ready = subst (All (IsReady air e)) (sym to) (All-push (IsReady air e) ws c.new.result c.loop-seat.invariant.ready c.new.ensures.ready);
      room = omega (arith, room, longer, less, same);
    }
