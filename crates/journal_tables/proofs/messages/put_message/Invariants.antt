use Rattle.std.proofs.Common.{length}
use Rattle.std.specs.List.{flat_map, range_with_len}
use Rattle.air_journal.specs.Airs.{air_of, plans_of}
use Rattle.journal_tables.specs.Messages.{lines_of_copy, message_of, take_of}
use Rattle.journal_tables.proofs.messages.put_message.Given as goal

-- The lines of the copies so far were put.
abbrev pub invariant-loop-copy : goal.invariant-loop-copy
invariant-loop-copy g l =
    let e = l.state.encounter in
    let read = l.reader.read in
    let way = l.fn.way in
    g.S.LineSink.took l.fn.sink l.sink (flat_map
    (lines_of_copy (message_of e read (record { sender = way.sender; receiver = way.receiver; number = l.number; word = l.word })) (plans_of e way.sender way.receiver l.number)
    (take_of (air_of e) l.state.journal way.sender way.receiver (length read))) (range_with_len 0 l.copy))
