use Rattle.std.proofs.Common.{◌+◌, ◌*◌, List, get_or, ap, ◌∙◌, arith}
use Rattle.std.proofs.lemmas.List.{get_or-replicate}
use Rattle.acas_base.specs.declared.TheConstants.{CRAFTS}
use Rattle.air_journal.proofs.rows.Rows.new.Goals as goal
use Rattle.air_journal.specs.Kept.{no_link, nothing_made}
use Rattle.air_journal.specs.declared.kept.Link.{Link}
use Rattle.air_journal.specs.declared.kept.Made.{Made}

pub returns-clause-blank : goal.returns-clause-blank
returns-clause-blank c = record {
  made = λ i h. ap (λ (xs : List Made). get_or xs i nothing_made) c.in_ok-made.ensures ∙ get_or-replicate CRAFTS i nothing_made nothing_made h;
  link = λ i j h k. ap (λ (xs : List Link). get_or xs (i * CRAFTS + j) no_link) c.in_ok-links.ensures ∙ get_or-replicate 256 (i * CRAFTS + j) no_link no_link (omega arith);
  queue = λ i j h k. (c.in_ok-queues.ensures.each i j h k).copies_are;
}

pub returns-clause-room : goal.returns-clause-room
returns-clause-room c = λ i j h k. (c.in_ok-queues.ensures.each i j h k).room_is
