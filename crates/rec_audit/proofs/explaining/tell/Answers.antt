use Rattle.rec_audit.proofs.explaining.tell.Goals as goal

pub returns-in-Encounter : goal.returns-in-Encounter
returns-in-Encounter c = rw (c.in-Encounter.is) c.tell_encounter.ensures

pub returns-in-Spelling : goal.returns-in-Spelling
returns-in-Spelling c = rw (c.in-Spelling.is) c.tell_misspelled.ensures
