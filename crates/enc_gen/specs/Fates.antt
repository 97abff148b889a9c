-- The fates of messages in a generated encounter.
use Rattle.std.specs.Prelude.{ℕ, ◌+◌, ◌^◌, ◌==◌, ◌&&◌, Bool, false, not, if◌then◌else◌, List, length, slice_get}
use Rattle.std.specs.Option.{option_map_or}
use Rattle.acas_base.specs.Encounter.{is_ra_kind, plain_copy}
use Rattle.acas_base.specs.declared.craft.CraftSpec.{CraftSpec}
use Rattle.acas_base.specs.declared.link.CopyPlan.{CopyPlan}
use Rattle.acas_base.specs.declared.link.Fate.{Fate}
use Rattle.enc_gen.specs.Draws.{draw}
use Rattle.enc_gen.specs.Making.{Made, each, nothing, one, only}

abbrev pub is_ra_at : List CraftSpec → ℕ → Bool
is_ra_at crafts craft = option_map_or (λ (spec : CraftSpec). is_ra_kind spec.kind) (slice_get crafts craft) false

-- A fate of `copies` copies. The first may be held back or damaged.
abbrev pub fate_of : ℕ → ℕ → ℕ → ℕ → CopyPlan → Fate
fate_of sender receiver number copies first = record {
  sender = sender;
  receiver = receiver;
  number = number;
  copies = copies;
  first = first;
  second = plain_copy;
  third = plain_copy;
}

-- One copy that is held back.
abbrev pub held : ℕ → ℕ → ℕ → ℕ → Made Fate
held sender receiver number s =
    let hold = draw 5 s in
    one (fate_of sender receiver number 1 (record { hold = 1 + hold.number; mask = 0 })) hold.state

-- One copy with one bit that is flipped.
abbrev pub damaged : ℕ → ℕ → ℕ → ℕ → Made Fate
damaged sender receiver number s =
    let bit = draw 8 s in
    one (fate_of sender receiver number 1 (record { hold = 0; mask = 2 ^ bit.number })) bit.state

-- The fate for a number that is drawn.
unfoldable pub fate_by : ℕ → ℕ → ℕ → ℕ → ℕ → Made Fate
fate_by drawn sender receiver number s =
    if drawn == 0 then one (fate_of sender receiver number 0 plain_copy) s
    else if drawn == 1 then one (fate_of sender receiver number 2 plain_copy) s
    else if drawn == 2 then held sender receiver number s
    else if drawn == 3 then damaged sender receiver number s
    else nothing s

-- The fate of a sender's message to a receiver, after `before` others.
abbrev pub fate : ℕ → ℕ → ℕ → ℕ → Made Fate
fate sender receiver before s =
    let d = draw 10 s in
    fate_by d.number sender receiver (before + 1) d.state

-- The receiver is RA, and another one than the sender.
abbrev pub is_link : List CraftSpec → ℕ → ℕ → Bool
is_link crafts sender receiver = is_ra_at crafts receiver && not (receiver == sender)

-- The fates of the messages of a sender to a receiver, by number.
abbrev pub link_fates : List CraftSpec → ℕ → ℕ → ℕ → ℕ → Made Fate
link_fates crafts cycles sender receiver = only (is_link crafts sender receiver) (each (fate sender receiver) cycles)

-- The fates of the messages of a sender, where it is RA, by receiver.
abbrev pub own_fates : List CraftSpec → ℕ → ℕ → ℕ → Made Fate
own_fates crafts cycles sender = only (is_ra_at crafts sender) (each (link_fates crafts cycles sender) (length crafts))

-- The fates of the messages of all aircraft, by sender.
abbrev pub fates : List CraftSpec → ℕ → ℕ → Made Fate
fates crafts cycles = each (own_fates crafts cycles) (length crafts)
