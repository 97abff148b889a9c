use Rattle.std.proofs.Common.{ap, sym, ◌∙◌}
use Rattle.std.specs.Prelude.{AllPairs}
use Rattle.acas_base.specs.Encounter.{AreApart}
use Rattle.enc_file.specs.Earlier.{index_of}
use Rattle.enc_file.proofs.AircraftFound.{apart-differ, index-found}
use Rattle.enc_file.proofs.Crafted.{crafts-read}
use Rattle.enc_file.proofs.tables.Tables.index_near.Goals as goal

pub returns-then-has_address : goal.returns-then-has_address
returns-then-has_address c =
    let h = c.requires.holds in
    let items = c.args.self.now.crafts.items in
    let apart : AllPairs AreApart items = rw h.crafts (crafts-read c.requires.earlier h.read).apart in
    let there = rw c.deref.ensures.value at c.has_address.ensures.0 c.if-has_address.true in
    sym (index-found items c.args.guess (apart-differ items apart) there.0) ∙ ap (index_of items) there.1
