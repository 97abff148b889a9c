use Rattle.std.proofs.Common.{◌∙◌, ap, refl}
use Rattle.acas_base.specs.Encounter.{Parts}
use Rattle.air_rules.specs.Journal.{commits}
use Rattle.craft_view.proofs.Looking.{may-look, moment, picture-after, ready-some}
use Rattle.reasons.proofs.Looked.{own-few, ready-looked, ready-there}
use Rattle.reasons.proofs.commits.put_by.Goals as goal

pub look-requires-clause-own : goal.look-requires-clause-own
look-requires-clause-own g c = own-few _ _ c.args.commit.now.own c.requires.same c.valid_law.ensures c.requires.active

pub look-requires-clause-there : goal.look-requires-clause-there
look-requires-clause-there g c =
    ready-some c.args.reader.now.encounter (commits c.args.reader.now.read) c.args.surveillance.now.crafts c.args.commit.now.own (own-few _ _ c.args.commit.now.own c.requires.same c.valid_law.ensures c.requires.active)
    c.requires.ready c.requires.active

pub look-requires-clause-ready : goal.look-requires-clause-ready
look-requires-clause-ready g c =
    let e = c.args.reader.now.encounter in
    let read = c.args.reader.now.read in
    let here = c.new-places.ensures ∙ ap (λ (x : Parts). moment x c.args.commit.now.cycle) c.requires.same ∙ ap (moment e) c.requires.next in
    may-look e (commits read) c.args.surveillance.now.crafts c.args.commit.now.own (commits read c.args.commit.now.own) c.new-places.result here
    (own-few _ _ c.args.commit.now.own c.requires.same c.valid_law.ensures c.requires.active) c.requires.ready (λ _. refl)

pub put_looked-requires-clause-place : goal.put_looked-requires-clause-place
put_looked-requires-clause-place g c = own-few _ _ c.args.commit.now.own c.requires.same c.valid_law.ensures c.requires.active

pub put_looked-requires-clause-looked : goal.put_looked-requires-clause-looked
put_looked-requires-clause-looked g c =
    let few = own-few _ _ c.args.commit.now.own c.requires.same c.valid_law.ensures c.requires.active in
    let here = c.new-places.ensures ∙ ap (λ (x : Parts). moment x c.args.commit.now.cycle) c.requires.same in
    ready-there c.args.reader.now.encounter c.args.reader.now.read c.args.surveillance.now.crafts c.look.new.self.crafts c.args.commit.now.own c.args.commit.now.cycle c.args.commit.now.cells.now c.look.new.self.picture c.new-places.result
    few here c.requires.next c.requires.ready c.look.ensures

pub put_looked-requires-clause-picture : goal.put_looked-requires-clause-picture
put_looked-requires-clause-picture g c =
    let here = c.new-places.ensures ∙ ap (λ (x : Parts). moment x c.args.commit.now.cycle) c.requires.same in
    picture-after c.args.reader.now.encounter c.args.commit.now.own c.args.commit.now.cycle c.args.surveillance.now.crafts c.look.new.self.crafts c.look.new.self.picture c.new-places.result here c.look.ensures

pub returns-clause-ready : goal.returns-clause-ready
returns-clause-ready g c =
    let here = c.new-places.ensures ∙ ap (λ (x : Parts). moment x c.args.commit.now.cycle) c.requires.same in
    ready-looked c.args.reader.now.encounter c.args.reader.now.read c.args.surveillance.now.crafts c.look.new.self.crafts c.args.commit.now.own c.args.commit.now.cycle c.args.commit.now.cells.now c.look.new.self.picture c.new-places.result
    here c.requires.next c.requires.ready c.look.ensures
