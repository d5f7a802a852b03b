-- Reading entry by entry.
use Rattle.std.proofs.Common.{true, false, ◌≡◌, ◌≤◌, ◌<◌, ℕ, ◌+◌, List, [], ◌∷◌, ◌++◌, length, drop, get_or, Ok, Err, Result, Option, None, Some, IfSome, refl, sym, ◌∙◌, ap, subst, arith, append_assoc, length-append, length-drop, length-take}
use Rattle.std.proofs.lemmas.Bool.Decides.{nat_tests}
use Rattle.std.proofs.lemmas.List.{drop-drop, drop_more, append-nil}
use Rattle.std.specs.Io.KnownBytes.{Keeps}
use Rattle.cs_journal.specs.declared.journal.Stored.{Stored}
use Rattle.cs_journal.specs.declared.fault.JournalFault.TheVariants as faults
use Rattle.cs_journal.specs.Reading.{IsNext}
use Rattle.cs_journal.specs.Rows.{is_open, length_at, in_front, rows_from, stored_of, place_behind}
use Rattle.cs_journal.proofs.Rows.{rows_closed, rows_broken, rows_step}

-- entries in front of those that stand behind them
abbrev pub all_front : List Stored → Result (List Stored) ℕ → Result (List Stored) ℕ
all_front stored (Ok more) = Ok (stored ++ more)
all_front stored (Err place) = Err place

front_more : (stored : List Stored) (s : Stored) (read : Result (List Stored) ℕ) → all_front stored (in_front s read) ≡ all_front (stored ++ s ∷ []) read
front_more stored s (Ok more) = ap Ok (sym (append_assoc stored (s ∷ []) more))
front_more stored s (Err place) = refl

-- these entries were read, up to this gate
abbrev pub Walked : Option (List ℕ) → ℕ → List Stored → Type 0
Walked seen gate stored = IfSome seen (λ bytes. stored_of bytes ≡ all_front stored (rows_from (drop (length stored) bytes) gate (drop gate bytes)))

start : (read : Result (List Stored) ℕ) → read ≡ all_front [] read
start (Ok stored) = refl
start (Err place) = refl

pub walk_start : (seen : Option (List ℕ)) → Walked seen 0 []
walk_start None = tt
walk_start (Some bytes) = start (stored_of bytes)

pub walk_on : (seen now : Option (List ℕ)) (gate len : ℕ) (stored : List Stored) (payload : List ℕ) → Walked seen gate stored → Keeps seen now → IfSome now (λ bytes. len ≡ length bytes) → IfSome now (λ bytes. IsNext gate (drop gate bytes) (Ok (Some payload)))
    → gate + 5 + length payload < len → length stored ≤ gate → Walked seen (gate + 5 + length payload) (stored ++ record { gate = gate; payload = payload } ∷ [])
walk_on None now gate len stored payload walked keeps told next fits few = tt
walk_on (Some bytes) None gate len stored payload walked keeps told next fits few = absurd keeps
walk_on (Some bytes) (Some now) gate len stored payload walked keeps told next fits few =
    let size : len ≡ length bytes = told ∙ ap length keeps in
    let here = subst (λ (b : List ℕ). IsNext gate (drop gate b) (Ok (Some payload))) keeps next in
    let rest = drop gate bytes in
    let entry : Stored = record { gate = gate; payload = payload } in
    let bound = drop (length stored + 1) bytes in
    let long : 5 + length_at rest < length rest = grind (arith, nat_tests, here.1) in
    let count : length payload ≡ length_at rest = omega (arith, ap length here.2, length-take (length_at rest) (drop 5 rest), length-drop 5 rest, long) in
    let more : drop (length stored) bytes ≡ get_or bytes (length stored) 0 ∷ bound = drop_more bytes (length stored) 0 (omega (arith, size, fits, few)) in
    let behind : drop (5 + length payload) rest ≡ drop (gate + 5 + length payload) bytes =
    drop-drop (5 + length payload) gate bytes ∙ ap (λ (n : ℕ). drop n bytes) (omega arith) in
    let length_more : length (stored ++ entry ∷ []) ≡ length stored + 1 = omega (arith, length-append stored (entry ∷ [])) in
    walked
    ∙ ap (λ (b : List ℕ). all_front stored (rows_from b gate rest)) more
    ∙ ap (all_front stored) (rows_step (get_or bytes (length stored) 0) bound gate rest payload (drop (gate + 5 + length payload) bytes) (length payload) here.0 here.1 (sym count) (sym here.2) behind)
    ∙ front_more stored entry (rows_from bound (gate + 5 + length payload) (drop (gate + 5 + length payload) bytes))
    ∙ ap (λ (n : ℕ). all_front (stored ++ entry ∷ []) (rows_from (drop n bytes) (gate + 5 + length payload) (drop (gate + 5 + length payload) bytes))) (sym length_more)

-- a closed gate ends them
pub walk_end : (seen now : Option (List ℕ)) (gate : ℕ) (stored : List Stored) → Walked seen gate stored → Keeps seen now → IfSome now (λ bytes. IsNext gate (drop gate bytes) (Ok None)) → IfSome seen (λ bytes. stored_of bytes ≡ Ok stored)
walk_end None now gate stored walked keeps next = tt
walk_end (Some bytes) None gate stored walked keeps next = absurd keeps
walk_end (Some bytes) (Some now) gate stored walked keeps next =
    let shut = subst (λ (b : List ℕ). is_open (drop gate b) ≡ false) keeps next in
    walked ∙ ap (all_front stored) (rows_closed (drop (length stored) bytes) gate (drop gate bytes) shut) ∙ ap Ok (append-nil stored)

two_more : (rest : List ℕ) → is_open rest ≡ true → 0 < length rest
two_more [] opened = absurd (cc opened)
two_more (a ∷ rest) opened = omega arith

-- and so does a gate without a whole entry
pub walk_bad : (seen now : Option (List ℕ)) (gate : ℕ) (stored : List Stored) (place : ℕ) → Walked seen gate stored → Keeps seen now → IfSome now (λ bytes. IsNext gate (drop gate bytes) (Err (faults.BadJournal place))) → length stored ≤ gate
    → IfSome seen (λ bytes. stored_of bytes ≡ Err place)
walk_bad None now gate stored place walked keeps next few = tt
walk_bad (Some bytes) None gate stored place walked keeps next few = absurd keeps
walk_bad (Some bytes) (Some now) gate stored place walked keeps next few =
    let here = subst (λ (b : List ℕ). IsNext gate (drop gate b) (Err (faults.BadJournal place))) keeps next in
    let some = two_more (drop gate bytes) here.0 in
    let more : drop (length stored) bytes ≡ get_or bytes (length stored) 0 ∷ drop (length stored + 1) bytes = drop_more bytes (length stored) 0 (omega (arith, some, few, length-drop gate bytes)) in
    walked
    ∙ ap (λ (b : List ℕ). all_front stored (rows_from b gate (drop gate bytes))) more
    ∙ ap (all_front stored) (rows_broken (get_or bytes (length stored) 0) (drop (length stored + 1) bytes) gate (drop gate bytes) here.0 here.1)
    ∙ ap Err (sym here.2)

-- what is told stays told
pub told_still : (seen now : Option (List ℕ)) (len : ℕ) → IfSome seen (λ bytes. len ≡ length bytes) → Keeps seen now → (seen ≡ None → now ≡ None) → IfSome now (λ bytes. len ≡ length bytes)
told_still seen None len told keeps silent = tt
told_still None (Some now) len told keeps silent = absurd (cc (silent refl))
told_still (Some bytes) (Some now) len told keeps silent = told ∙ sym (ap length keeps)

pub keeps_both : (a b c : Option (List ℕ)) → Keeps a b → Keeps b c → Keeps a c
keeps_both None b c first second = tt
keeps_both (Some x) None c first second = absurd first
keeps_both (Some x) (Some y) None first second = absurd second
keeps_both (Some x) (Some y) (Some z) first second = second ∙ first

pub keeps_now : (a : Option (List ℕ)) → Keeps a a
keeps_now None = tt
keeps_now (Some x) = refl

pub place_more : (place : ℕ) (stored : List Stored) (s : Stored) → place_behind place (stored ++ s ∷ []) ≡ place_behind place stored + 5 + length s.payload
place_more place [] s = refl
place_more place (t ∷ stored) s = place_more (place + 5 + length t.payload) stored s
