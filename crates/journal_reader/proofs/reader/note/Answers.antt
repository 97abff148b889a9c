use Rattle.std.proofs.Common.{◌≡◌, ℕ, ◌+◌, ◌<◌, ◌≤◌, true, false, List, ◌∷◌, Option, Some, option_map, get_or, length, refl, set, sym, ap, ◌∙◌, subst, arith, eq-eqb}
use Rattle.acas_base.specs.declared.TheConstants.{CRAFTS}
use Rattle.acas_base.specs.declared.advisory.Vrc.{Vrc}
use Rattle.acas_base.specs.declared.entry.Entry.{Entry}
use Rattle.acas_base.specs.declared.entry.Entry.TheVariants as kinds
use Rattle.air_journal.proofs.Bounds.{below-all, few-commits}
use Rattle.air_journal.proofs.Soundness.{sound-of}
use Rattle.air_journal.specs.Airs.{air_of}
use Rattle.air_journal.specs.EntryRefs.{entry_of}
use Rattle.air_journal.specs.declared.entry_ref.EntryRef.{EntryRef}
use Rattle.air_rules.proofs.Legal.{allowed, earlier}
use Rattle.air_rules.proofs.Pace.{active-ra, count-yes}
use Rattle.air_rules.proofs.Beginnings.{begins-on}
use Rattle.air_rules.specs.Journal.{Sent, commits, is_commit_of, more, sent_at, whole}
use Rattle.air_rules.specs.Takes.{complement_read, read_copy}
use Rattle.journal_reader.proofs.GoodTakes.{TakesMessage, takes-message}
use Rattle.journal_reader.proofs.Keeping.{kept-commit, kept-send, kept-spoilt, kept-take}
use Rattle.journal_reader.proofs.Prefixes.{Follows, follows, sent-on}
use Rattle.journal_reader.specs.Links.{IsKept, from_word}
use Rattle.journal_reader.specs.Reading.{read_of}
use Rattle.journal_reader.specs.declared.links.GoodTake.{GoodTake}
use Rattle.journal_reader.specs.declared.taking.Told.{Told}
use Rattle.journal_reader.proofs.reader.note.Goals as goal
use Rattle.journal_reader.proofs.reader.note.Goals.{In-Commit, In-Take}

-- ---- a commit

commit : (c : In-Commit) → Follows c.args.state.now.encounter c.args.state.now.journal c.args.at (kinds.Commit c.in-Commit.own c.in-Commit.cycle c.in-Commit.cells.now)
commit c = follows c.args.state.now.encounter c.args.state.now.journal c.args.at _ c.legal_law.ensures.valid c.legal_law.ensures.legal (c.requires.entry ∙ ap (λ (r : EntryRef). Some (entry_of r)) c.in-Commit.is)

commit-own : (c : In-Commit) → c.in-Commit.own < CRAFTS
commit-own c = (let f = commit c in let a = f.fits.0 in let b = f.few in omega arith)

pub bounds-counts-from : goal.bounds-counts-from
bounds-counts-from c = (let h = commit-own (goal.at.bounds-counts-from c).In-Commit in let e = c.from.ensures in omega arith)

pub overflow_add-counts : goal.overflow_add-counts
overflow_add-counts c =
    let d = (goal.at.overflow_add-counts c).In-Commit in
    let f = commit d in
    let K = read_of c.args.state.now.journal c.args.at in
    let x = kinds.Commit c.in-Commit.own c.in-Commit.cycle c.in-Commit.cells.now in
    let most : commits (x ∷ K) c.in-Commit.own ≤ 600 = few-commits c.args.state.now.encounter (x ∷ K) c.legal_law.ensures.valid f.legal c.in-Commit.own in
    let more : commits (x ∷ K) c.in-Commit.own ≡ commits K c.in-Commit.own + 1 = count-yes (is_commit_of c.in-Commit.own) x K (eq-eqb c.in-Commit.own c.in-Commit.own refl) in
    let here = c.requires.kept.count c.in-Commit.own (commit-own d) in
    let same = c.from.ensures in
    rw same (rw here (let few : commits K c.in-Commit.own + 1 ≤ 600 = omega arith in omega arith))

pub bounds-counts-from-in-Commit : goal.bounds-counts-from-in-Commit
bounds-counts-from-in-Commit c = (let h = commit-own (goal.at.bounds-counts-from-in-Commit c).In-Commit in let e = c.from.ensures in omega arith)

pub note_commit-requires-clause-own : goal.note_commit-requires-clause-own
note_commit-requires-clause-own c = commit-own (goal.at.note_commit-requires-clause-own c).In-Commit

pub note_commit-requires-clause-size : goal.note_commit-requires-clause-size
note_commit-requires-clause-size c = (commit (goal.at.note_commit-requires-clause-size c).In-Commit).fits.2.size

pub returns-in-Commit : goal.returns-in-Commit
returns-in-Commit c =
    let d = (goal.at.returns-in-Commit c).In-Commit in
    let f = commit d in
    let counts : List ℕ = set c.args.counts.now c.from.result (get_or c.args.counts.now c.from.result 0 + 1) in
    subst (λ (J : List Entry). IsKept (air_of c.args.state.now.encounter) J counts c.note_commit.new.links) (sym f.grows)
    (rw c.from.ensures (kept-commit (air_of c.args.state.now.encounter) (read_of c.args.state.now.journal c.args.at) c.args.counts.now c.args.links.now c.note_commit.new.links c.requires.kept
    c.in-Commit.own c.in-Commit.cycle c.args.at c.in-Commit.cells.now (commit-own d) f.position c.note_commit.ensures))

-- ---- a send

pub returns-in-Send : goal.returns-in-Send
returns-in-Send c =
    let e = c.args.state.now.encounter in
    let f = follows e c.args.state.now.journal c.args.at (kinds.Send c.in-Send.own c.in-Send.target c.in-Send.number c.in-Send.word) c.legal_law.ensures.valid c.legal_law.ensures.legal (c.requires.entry ∙ ap (λ (r : EntryRef). Some (entry_of r)) c.in-Send.is) in
    subst (λ (J : List Entry). IsKept (air_of e) J c.args.counts.now c.args.links.now) (sym f.grows) (kept-send (air_of e) _ _ _ c.requires.kept c.in-Send.own c.in-Send.target c.in-Send.number c.in-Send.word)

-- ---- a take

taking : (c : In-Take) → Follows c.args.state.now.encounter c.args.state.now.journal c.args.at (kinds.Take c.in-Take.own c.in-Take.send c.in-Take.copy c.in-Take.good)
taking c = follows c.args.state.now.encounter c.args.state.now.journal c.args.at _ c.legal_law.ensures.valid c.legal_law.ensures.legal (c.requires.entry ∙ ap (λ (r : EntryRef). Some (entry_of r)) c.in-Take.is)

take-own : (c : In-Take) → c.in-Take.own < CRAFTS
take-own c = (let f = taking c in let a = f.fits.0 in let b = f.few in omega arith)

pub returns-then-not-good : goal.returns-then-not-good
returns-then-not-good c =
    let d = (goal.at.returns-then-not-good c).In-Take in
    let f = taking d in
    let spoilt : c.in-Take.good ≡ false = c.if-not-good.true in
    subst (λ (J : List Entry). IsKept (air_of c.args.state.now.encounter) J c.args.counts.now c.args.links.now) (sym f.grows)
    (rw spoilt (kept-spoilt (air_of c.args.state.now.encounter) (read_of c.args.state.now.journal c.args.at) c.args.counts.now c.args.links.now c.requires.kept c.in-Take.own c.in-Take.send c.in-Take.copy))

pub bounds-counts-from-in-Some : goal.bounds-counts-from-in-Some
bounds-counts-from-in-Some c = (let h = take-own (goal.at.bounds-counts-from-in-Some c).In-Take in let e = c.from-in-Some.ensures in omega arith)

pub note_take-requires-clause-own : goal.note_take-requires-clause-own
note_take-requires-clause-own c = take-own (goal.at.note_take-requires-clause-own c).In-Take

-- The message of which an undamaged copy was taken.
message : (c : In-Take) → c.in-Take.good ≡ true → TakesMessage (air_of c.args.state.now.encounter) (read_of c.args.state.now.journal c.args.at) c.in-Take.send c.in-Take.copy
message c good =
    let e = c.args.state.now.encounter in
    let l = (taking c).legal in
    takes-message (air_of e) (sound-of e c.legal_law.ensures.valid) (read_of c.args.state.now.journal c.args.at) (earlier l) c.in-Take.own c.in-Take.send c.in-Take.copy c.in-Take.good (allowed l) good

-- It is the one that was found.
found : (c : In-Take) → (good : c.in-Take.good ≡ true) → (told : Option Told) → told ≡ option_map (λ (sent : Sent). from_word sent.sender sent.word) (sent_at c.args.state.now.journal c.in-Take.send) →
    told ≡ Some (from_word (message c good).sent.sender (message c good).sent.word)
found c good told is =
    let m = message c good in
    is ∙ ap (option_map (λ (sent : Sent). from_word sent.sender sent.word)) (sent-on c.in-Take.send m.sent (read_of c.args.state.now.journal c.args.at) c.args.state.now.journal (begins-on (taking c).begins (more whole)) m.here)

-- Who sent it is one of the aircraft.
sender-fits : (c : In-Take) → (good : c.in-Take.good ≡ true) → (message c good).sent.sender < CRAFTS
sender-fits c good =
    let e = c.args.state.now.encounter in
    below-all e c.legal_law.ensures.valid _ (active-ra (air_of e) _ (message c good).sender_ra)

same-told : (one two : Told) → Some one ≡ Some two → (one.sender ≡ two.sender) × (one.vrc ≡ two.vrc)
same-told one two is = let same : one ≡ two = cc in (ap (λ (t : Told). t.sender) same, ap (λ (t : Told). t.vrc) same)

same-take : (at at2 send : ℕ) (vrc vrc2 : Vrc) (commits commits2 : ℕ) → at ≡ at2 → vrc ≡ vrc2 → commits ≡ commits2 →
    (let g : GoodTake = record { at = at; send = send; vrc = vrc; commits = commits } in g) ≡ (let g : GoodTake = record { at = at2; send = send; vrc = vrc2; commits = commits2 } in g)
same-take at at2 send vrc vrc2 commits commits2 a b d = λ t. record { at = a t; send = send; vrc = b t; commits = d t }

pub note_take-requires-clause-sender : goal.note_take-requires-clause-sender
note_take-requires-clause-sender c =
    let d = (goal.at.note_take-requires-clause-sender c).In-Take in
    let good = c.if-not-good.false in
    let same = (same-told _ _ (sym c.in-Some.is ∙ found d good c.told_at.result c.told_at.ensures)).0 in
    rw same (sender-fits d good)

pub returns-in-Some : goal.returns-in-Some
returns-in-Some c =
    let d = (goal.at.returns-in-Some c).In-Take in
    let good = c.if-not-good.false in
    let f = taking d in
    let m = message d good in
    let air = air_of c.args.state.now.encounter in
    let K = read_of c.args.state.now.journal c.args.at in
    let same = same-told _ _ (sym c.in-Some.is ∙ found d good c.told_at.result c.told_at.ensures) in
    let sender : c.in-Some.told.sender < CRAFTS = rw same.0 (sender-fits d good) in
    let vrc = same.1 ∙ sym m.reads in
    let count = ap (λ (n : ℕ). get_or c.args.counts.now n 0) c.from-in-Some.ensures ∙ c.requires.kept.count c.in-Take.own (take-own d) in
    let taken = same-take c.args.at (length K) c.in-Take.send c.in-Some.told.vrc (complement_read (read_copy air (sent_at K c.in-Take.send) c.in-Take.copy)) (get_or c.args.counts.now c.from-in-Some.result 0) (commits K c.in-Take.own) f.position vrc count in
    subst (λ (J : List Entry). IsKept air J c.args.counts.now c.note_take.new.links) (sym f.grows)
    (rw good (kept-take air K c.args.counts.now c.args.links.now c.note_take.new.links c.requires.kept c.in-Take.own c.in-Take.send c.in-Take.copy c.in-Some.told.sender m.sent _ (take-own d) sender m.here (sym same.0) taken c.note_take.ensures))

pub returns-in_default : goal.returns-in_default
returns-in_default c =
    let d = (goal.at.returns-in_default c).In-Take in
    let none = sym c.in_default.is ∙ found d c.if-not-good.false c.told_at.result c.told_at.ensures in
    absurd (cc)
