-- What a reader has read after more bytes of a line, after its end, and at the end of all.
use Rattle.std.proofs.Common.{◌≡◌, ◌≢◌, ◌<◌, ◌≤◌, ◌+◌, ◌-◌, ◌==◌, ℕ, suc, List, [], ◌∷◌, ◌++◌, length, take, Bool, true, false, if◌then◌else◌, Result, Ok, Err, inl, inr, refl, sym, ap, subst, ◌∙◌, append_assoc, append-nil, arith}
use Rattle.std.proofs.lemmas.List.{length-append}
use Rattle.std.proofs.lemmas.List.Elements.{All-head, All-tail}
use Rattle.std.proofs.Math.Seq.{take-append-add}
use Rattle.cs_types.specs.Texts.{HasNoEnd}
use Rattle.cs_script.specs.declared.fault.LineCause.{LineCause}
use Rattle.cs_script.specs.declared.fault.ScriptFault.{ScriptFault}
use Rattle.cs_script.specs.declared.fault.ScriptFault.TheVariants.{Line, TooLong, Memory}
use Rattle.cs_script.specs.declared.reader.Reader.{Reader}
use Rattle.cs_script.specs.Readings.{not_memory, is_memory}
use Rattle.cs_script.specs.Database.{Database, no_database}
use Rattle.cs_script.specs.Takes.{Takes}
use Rattle.cs_script.specs.Script.{most_bytes, without_return, lines_behind, ended_behind, lines_of, Runs, Makes, of_script, fault_of}
use Rattle.cs_script.specs.Progress.{HasRead, IsRefusedIn, IsRefused}
use Rattle.cs_script.proofs.Causes.{another}

differs : (b : ℕ) → b ≢ 10 → (b == 10) ≡ false
differs b h = by (b == 10) refl
  where
    same : (b == 10) ≡ true → b ≡ 10
    same e = grind (arith, e)

    by : (t : Bool) → (b == 10) ≡ t → (b == 10) ≡ false
    by true e = absurd (h (same e))
    by false e = e

-- bytes of which none is an end belong to the line
front_lines : (line front rest : List ℕ) → HasNoEnd front → lines_behind line (front ++ rest) ≡ lines_behind (line ++ front) rest
unfolding lines_behind
front_lines line [] rest h = ap (λ l. lines_behind l rest) (sym (append-nil line))
front_lines line (b ∷ bs) rest h =
    let more = front_lines (line ++ b ∷ []) bs rest (All-tail (λ x. x ≢ 10) b bs h) in
    rw (differs b (All-head (λ x. x ≢ 10) b bs h)) (more ∙ ap (λ l. lines_behind l rest) (append_assoc line (b ∷ []) bs))

front_ended : (line front rest : List ℕ) → HasNoEnd front → ended_behind line (front ++ rest) ≡ ended_behind (line ++ front) rest
unfolding ended_behind
front_ended line [] rest h = ap (λ l. ended_behind l rest) (sym (append-nil line))
front_ended line (b ∷ bs) rest h =
    let more = front_ended (line ++ b ∷ []) bs rest (All-tail (λ x. x ≢ 10) b bs h) in
    rw (differs b (All-head (λ x. x ≢ 10) b bs h)) (more ∙ ap (λ l. ended_behind l rest) (append_assoc line (b ∷ []) bs))

end_lines : (line rest : List ℕ) → without_return line ∷ lines_behind [] rest ≡ lines_behind line (10 ∷ rest)
unfolding lines_behind
end_lines line rest = refl

end_ended : (line rest : List ℕ) → without_return line ∷ ended_behind [] rest ≡ ended_behind line (10 ∷ rest)
unfolding ended_behind
end_ended line rest = refl

last_lines : (line : List ℕ) → line ∷ [] ≡ lines_behind line []
unfolding lines_behind
last_lines line = refl

last_ended : (line : List ℕ) → [] ≡ ended_behind line []
unfolding ended_behind
last_ended line = refl

-- of no bytes nothing was read
pub nothing_read : (r : Reader) → r.state ≡ no_database → r.lines ≡ 0 → r.line.items ≡ [] → HasRead r []
nothing_read r state lines line = record {
  whole = λ rest out h. subst (λ s. Runs s 1 (lines_behind [] rest) out) state (subst (λ n. Runs r.state (suc n) (lines_behind [] rest) out) lines (subst (λ (l : List ℕ). Runs r.state (suc r.lines) (lines_behind l rest) out) line h));
  ended = λ rest out h. subst (λ s. Runs s 1 (ended_behind [] rest) out) state (subst (λ n. Runs r.state (suc n) (ended_behind [] rest) out) lines (subst (λ (l : List ℕ). Runs r.state (suc r.lines) (ended_behind l rest) out) line h));
  count = omega (arith, lines);
}

-- more bytes of a line
pub front_read : (old new : Reader) (before front : List ℕ) → HasRead old before → HasNoEnd front → new.state ≡ old.state → new.lines ≡ old.lines → new.line.items ≡ old.line.items ++ front → HasRead new (before ++ front)
front_read old new before front r none state lines line = record {
  whole = λ rest out h.
      let same : Runs old.state (suc old.lines) (lines_behind new.line.items rest) out = subst (λ s. Runs s (suc old.lines) (lines_behind new.line.items rest) out) state (subst (λ n. Runs new.state (suc n) (lines_behind new.line.items rest) out) lines h) in
      let on : Runs old.state (suc old.lines) (lines_behind old.line.items (front ++ rest)) out =
      subst (λ ls. Runs old.state (suc old.lines) ls out) (sym (front_lines old.line.items front rest none)) (subst (λ (l : List ℕ). Runs old.state (suc old.lines) (lines_behind l rest) out) line same) in
      subst (λ (l : List ℕ). Runs no_database 1 (lines_behind [] l) out) (sym (append_assoc before front rest)) (r.whole (front ++ rest) out on);
  ended = λ rest out h.
      let same : Runs old.state (suc old.lines) (ended_behind new.line.items rest) out = subst (λ s. Runs s (suc old.lines) (ended_behind new.line.items rest) out) state (subst (λ n. Runs new.state (suc n) (ended_behind new.line.items rest) out) lines h) in
      let on : Runs old.state (suc old.lines) (ended_behind old.line.items (front ++ rest)) out =
      subst (λ ls. Runs old.state (suc old.lines) ls out) (sym (front_ended old.line.items front rest none)) (subst (λ (l : List ℕ). Runs old.state (suc old.lines) (ended_behind l rest) out) line same) in
      subst (λ (l : List ℕ). Runs no_database 1 (ended_behind [] l) out) (sym (append_assoc before front rest)) (r.ended (front ++ rest) out on);
  count = omega (arith, lines, r.count, length-append before front);
}

-- the end of a line that was taken
pub end_read : (old new : Reader) (before : List ℕ) → HasRead old before → Takes old.state (without_return old.line.items) (Ok new.state) → new.lines ≡ suc old.lines → new.line.items ≡ [] → HasRead new (before ++ 10 ∷ [])
end_read old new before r takes lines line = record {
  whole = λ rest out h.
      let same : Runs new.state (suc (suc old.lines)) (lines_behind [] rest) out = subst (λ n. Runs new.state (suc n) (lines_behind [] rest) out) lines (subst (λ (l : List ℕ). Runs new.state (suc new.lines) (lines_behind l rest) out) line h) in
      let on : Runs old.state (suc old.lines) (lines_behind old.line.items (10 ∷ rest)) out = subst (λ ls. Runs old.state (suc old.lines) ls out) (end_lines old.line.items rest) (inr (new.state, takes, same)) in
      subst (λ (l : List ℕ). Runs no_database 1 (lines_behind [] l) out) (sym (append_assoc before (10 ∷ []) rest)) (r.whole (10 ∷ rest) out on);
  ended = λ rest out h.
      let same : Runs new.state (suc (suc old.lines)) (ended_behind [] rest) out = subst (λ n. Runs new.state (suc n) (ended_behind [] rest) out) lines (subst (λ (l : List ℕ). Runs new.state (suc new.lines) (ended_behind l rest) out) line h) in
      let on : Runs old.state (suc old.lines) (ended_behind old.line.items (10 ∷ rest)) out = subst (λ ls. Runs old.state (suc old.lines) ls out) (end_ended old.line.items rest) (inr (new.state, takes, same)) in
      subst (λ (l : List ℕ). Runs no_database 1 (ended_behind [] l) out) (sym (append_assoc before (10 ∷ []) rest)) (r.ended (10 ∷ rest) out on);
  count = omega (arith, lines, r.count, length-append before (10 ∷ []));
}

-- a fault that the script has
told_fault : (number : ℕ) (cause : LineCause) → of_script (fault_of number cause) → not_memory cause × (Line number cause ≡ fault_of number cause)
told_fault number cause h = by (is_memory cause) refl h
  where
    by : (b : Bool) → is_memory cause ≡ b → of_script (if b then Memory else Line number cause) → not_memory cause × (Line number cause ≡ (if b then Memory else Line number cause))
    by true e h = absurd h
    by false e h = (another cause e, refl)

-- the end of a line that was refused
pub end_refused : (old : Reader) (before rest : List ℕ) (number : ℕ) (cause : LineCause) → HasRead old before → (not_memory cause → Takes old.state (without_return old.line.items) (Err cause)) → number ≡ suc old.lines
    → IsRefusedIn ((before ++ 10 ∷ []) ++ rest) (fault_of number cause)
end_refused old before rest number cause r takes is told =
    let (free, same) = told_fault number cause told in
    let fault : ◌≡◌ {A = Result Database ScriptFault} (Err (Line (suc old.lines) cause)) (Err (fault_of number cause)) = ap (λ n. Err (Line n cause)) (sym is) ∙ ap Err same in
    let on : Runs old.state (suc old.lines) (lines_behind old.line.items (10 ∷ rest)) (Err (Line (suc old.lines) cause)) =
    subst (λ ls. Runs old.state (suc old.lines) ls (Err (Line (suc old.lines) cause))) (end_lines old.line.items rest) (inl (cause, takes free, refl)) in
    let ended : Runs old.state (suc old.lines) (ended_behind old.line.items (10 ∷ rest)) (Err (Line (suc old.lines) cause)) =
    subst (λ ls. Runs old.state (suc old.lines) ls (Err (Line (suc old.lines) cause))) (end_ended old.line.items rest) (inl (cause, takes free, refl)) in (
      subst (λ o. Runs no_database 1 (lines_behind [] ((before ++ 10 ∷ []) ++ rest)) o) fault (subst (λ (l : List ℕ). Runs no_database 1 (lines_behind [] l) (Err (Line (suc old.lines) cause))) (sym (append_assoc before (10 ∷ []) rest)) (r.whole (10 ∷ rest) _ on)),
      subst (λ o. Runs no_database 1 (ended_behind [] ((before ++ 10 ∷ []) ++ rest)) o) fault (subst (λ (l : List ℕ). Runs no_database 1 (ended_behind [] l) (Err (Line (suc old.lines) cause))) (sym (append_assoc before (10 ∷ []) rest)) (r.ended (10 ∷ rest) _ ended)),
    )

-- the last line, taken
pub last_read : (old : Reader) (given : List ℕ) (state : Database) → HasRead old given → Takes old.state old.line.items (Ok state) → Runs no_database 1 (lines_of given) (Ok state)
last_read old given state r takes =
    let on : Runs old.state (suc old.lines) (lines_behind old.line.items []) (Ok state) = subst (λ ls. Runs old.state (suc old.lines) ls (Ok state)) (last_lines old.line.items) (inr (state, takes, refl)) in
    subst (λ (l : List ℕ). Runs no_database 1 (lines_behind [] l) (Ok state)) (append-nil given) (r.whole [] (Ok state) on)

-- and refused
pub last_refused : (old : Reader) (given : List ℕ) (number : ℕ) (cause : LineCause) → HasRead old given → (not_memory cause → Takes old.state old.line.items (Err cause)) → number ≡ suc old.lines → IsRefused given (fault_of number cause)
last_refused old given number cause r takes is told =
    let (free, same) = told_fault number cause told in
    let fault : ◌≡◌ {A = Result Database ScriptFault} (Err (Line (suc old.lines) cause)) (Err (fault_of number cause)) = ap (λ n. Err (Line n cause)) (sym is) ∙ ap Err same in
    let on : Runs old.state (suc old.lines) (lines_behind old.line.items []) (Err (Line (suc old.lines) cause)) =
    subst (λ ls. Runs old.state (suc old.lines) ls (Err (Line (suc old.lines) cause))) (last_lines old.line.items) (inl (cause, takes free, refl)) in
    subst (λ o. Runs no_database 1 (lines_of given) o) fault (subst (λ (l : List ℕ). Runs no_database 1 (lines_behind [] l) (Err (Line (suc old.lines) cause))) (append-nil given) (r.whole [] _ on))

-- ---- the whole

-- a script within the most bytes
pub short_makes : (bytes : List ℕ) (out : Result Database ScriptFault) → length bytes ≤ most_bytes → Runs no_database 1 (lines_of bytes) out → Makes bytes out
short_makes bytes out short runs = record { whole = λ _. runs; long = λ long. absurd (omega (arith, short, long)) }

-- a line that is refused within the most bytes
pub refused_makes : (front rest : List ℕ) (e : ScriptFault) → length front ≤ most_bytes → ((rest : List ℕ) → IsRefusedIn (front ++ rest) e) → of_script e → Makes (front ++ rest) (Err e)
refused_makes front rest e short refused told = record {
  whole = λ _. (refused rest told).0;
  long = λ _.
      let room : most_bytes ≡ length front + (most_bytes - length front) = omega (arith, short) in
      let cut : take most_bytes (front ++ rest) ≡ front ++ take (most_bytes - length front) rest = ap (λ n. take n (front ++ rest)) room ∙ take-append-add front rest (most_bytes - length front) in
      (Err e, subst (λ (l : List ℕ). Runs no_database 1 (ended_behind [] l) (Err e)) (sym cut) (refused (take (most_bytes - length front) rest) told).1, refl);
}

-- more bytes than a script has
pub long_makes : (r : Reader) (front rest : List ℕ) → HasRead r front → length front ≡ most_bytes → 0 < length rest → Makes (front ++ rest) (Err TooLong)
long_makes r front rest read full more = record {
  whole = λ short. absurd (omega (arith, full, more, short, length-append front rest));
  long = λ _.
      let none : Runs r.state (suc r.lines) (ended_behind r.line.items []) (Ok r.state) = subst (λ ls. Runs r.state (suc r.lines) ls (Ok r.state)) (last_ended r.line.items) refl in
      let all : Runs no_database 1 (ended_behind [] front) (Ok r.state) = subst (λ (l : List ℕ). Runs no_database 1 (ended_behind [] l) (Ok r.state)) (append-nil front) (read.ended [] (Ok r.state) none) in
      let cut : take most_bytes (front ++ rest) ≡ front = ap (λ n. take n (front ++ rest)) (sym full ∙ omega arith) ∙ take-append-add front rest 0 ∙ append-nil front in
      (Ok r.state, subst (λ (l : List ℕ). Runs no_database 1 (ended_behind [] l) (Ok r.state)) (sym cut) all, refl);
}
