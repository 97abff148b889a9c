use Rattle.rec_text.proofs.Same.{IsTold, encounter-same, journal-same}
use Rattle.rec_text.proofs.laws.text_law.Goals as goal
use Rattle.rec_text.proofs.laws.text_law.Goals.{After-canonical_text_law}

told-a : (c : After-canonical_text_law) → IsTold c.args.a.now.encounter c.args.a.now.journal
told-a c = record { valid = c.legal_law.ensures.valid; says = c.canonical_text_law.ensures _ c.legal_law.ensures.valid c.legal_law.ensures.inside; legal = c.legal_law.ensures.legal }

told-b : (c : After-canonical_text_law) → IsTold c.args.b.now.encounter c.args.b.now.journal
told-b c = record { valid = c.legal_law-2.ensures.valid; says = c.canonical_text_law.ensures _ c.legal_law-2.ensures.valid c.legal_law-2.ensures.inside; legal = c.legal_law-2.ensures.legal }

pub returns-clause-encounter : goal.returns-clause-encounter
returns-clause-encounter c = encounter-same _ _ _ _ (told-a c) (told-b c)

pub returns-clause-journal : goal.returns-clause-journal
returns-clause-journal c = journal-same _ _ _ _ (told-a c) (told-b c)
