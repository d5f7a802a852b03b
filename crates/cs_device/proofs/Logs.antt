-- How a log goes on by one call.
use Rattle.std.proofs.Common.{false, ◌≡◌, ◌≤◌, ◌<◌, ℕ, ◌+◌, List, [], ◌∷◌, ◌++◌, length, take, drop, get_or, suc, refl, sym, ◌∙◌, ap, arith, reverse, length-append, subst}
use Rattle.std.proofs.lemmas.List.{drop-drop, reverse-append, length-reverse, take-append-le, drop-append-le, drop_at, length-drop, take_more, drop_more}
use Rattle.cs_device.specs.Past.{DiskCall, Wrote}
use Rattle.cs_device.specs.Log.{LogState, count_of, call_at, bytes_in, calls_of, past_of, HasNoSync}
use Rattle.cs_device.specs.declared.log.Logged.{Logged}
use Rattle.cs_device.specs.declared.log.Logged.TheVariants as logged

-- a call, where there is none in a list
abbrev pub some_call : Logged
some_call = logged.Wrote 0 0 false

calls_more : (log : List Logged) (l : Logged) (written : List ℕ) → calls_of (log ++ l ∷ []) written ≡ calls_of log written ++ call_at l (drop (bytes_in log) written) ∷ []
calls_more [] l written = refl
calls_more (m ∷ log) l written =
    ap (λ (cs : List DiskCall). call_at m written ∷ cs)
    (calls_more log l (drop (count_of m) written)
    ∙ ap (λ (b : List ℕ). calls_of log (drop (count_of m) written) ++ call_at l b ∷ []) (drop-drop (bytes_in log) (count_of m) written))

-- one call more is the latest
pub past_more : (log : List Logged) (l : Logged) (written : List ℕ) → past_of (log ++ l ∷ []) written ≡ call_at l (drop (bytes_in log) written) ∷ past_of log written
past_more log l written = ap reverse (calls_more log l written) ∙ reverse-append (calls_of log written) (call_at l (drop (bytes_in log) written) ∷ [])

pub bytes_more : (log : List Logged) (l : Logged) → bytes_in (log ++ l ∷ []) ≡ bytes_in log + count_of l
bytes_more [] l = omega arith
bytes_more (m ∷ log) l = omega (arith, bytes_more log l)

call_front : (l : Logged) (written more : List ℕ) → count_of l ≤ length written → call_at l (written ++ more) ≡ call_at l written
call_front (logged.Wrote at count done) written more fits = ap (λ (b : List ℕ). Wrote at b done) (take-append-le count written more fits)
call_front (logged.CutTo to done) written more fits = refl
call_front logged.Synced written more fits = refl

-- the bytes of later calls are not those of earlier ones
pub calls_front : (log : List Logged) (written more : List ℕ) → bytes_in log ≤ length written → calls_of log (written ++ more) ≡ calls_of log written
calls_front [] written more fits = refl
calls_front (l ∷ log) written more fits =
    let first : count_of l ≤ length written = omega (arith, fits) in
    let rest : bytes_in log ≤ length (drop (count_of l) written) = omega (arith, fits, length-drop (count_of l) written) in
    ap (λ (c : DiskCall). c ∷ calls_of log (drop (count_of l) (written ++ more))) (call_front l written more first)
    ∙ ap (λ (b : List ℕ). call_at l written ∷ calls_of log b) (drop-append-le (count_of l) written more first)
    ∙ ap (λ (cs : List DiskCall). call_at l written ∷ cs) (calls_front log (drop (count_of l) written) more rest)

length-calls : (log : List Logged) (written : List ℕ) → length (calls_of log written) ≡ length log
length-calls [] written = refl
length-calls (l ∷ log) written = ap suc (length-calls log (drop (count_of l) written))

pub length-past : (log : List Logged) (written : List ℕ) → length (past_of log written) ≡ length log
length-past log written = length-reverse (calls_of log written) ∙ length-calls log written

-- a call is kept, with its bytes
pub kept_call : (log : List Logged) (l : Logged) (written bytes : List ℕ) → bytes_in log ≡ length written → past_of (log ++ l ∷ []) (written ++ bytes) ≡ call_at l bytes ∷ past_of log written
kept_call log l written bytes is =
    past_more log l (written ++ bytes)
    ∙ ap (λ (b : List ℕ). call_at l b ∷ past_of log (written ++ bytes)) (drop_at written bytes (bytes_in log) (sym is))
    ∙ ap (λ (cs : List DiskCall). call_at l bytes ∷ reverse cs) (calls_front log written bytes (omega (arith, is)))

-- what contracts see of a log
abbrev state : List Logged → List ℕ → ℕ → ℕ → LogState
state log written room allowed = record { calls = past_of log written; written = length written; room = room; allowed = allowed }

-- a log with a call more
abbrev pub with_call : Logged → List ℕ → LogState → LogState
with_call l bytes s = record { calls = call_at l bytes ∷ s.calls; written = s.written + length bytes; room = s.room; allowed = s.allowed }

pub kept_state : (log log_now : List Logged) (l : Logged) (written written_now bytes : List ℕ) (room allowed : ℕ) → log_now ≡ log ++ l ∷ [] → written_now ≡ written ++ bytes → bytes_in log ≡ length written
    → state log_now written_now room allowed ≡ with_call l bytes (state log written room allowed)
kept_state log log_now l written written_now bytes room allowed log_is written_is same =
    let calls : past_of log_now written_now ≡ call_at l bytes ∷ past_of log written =
    ap (λ (x : List Logged). past_of x written_now) log_is ∙ ap (λ (w : List ℕ). past_of (log ++ l ∷ []) w) written_is ∙ kept_call log l written bytes same in
    let size : length written_now ≡ length written + length bytes = ap length written_is ∙ length-append written bytes in
    ap (λ (cs : List DiskCall). record { calls = cs; written = length written_now; room = room; allowed = allowed }) calls
    ∙ ap (λ (n : ℕ). record { calls = call_at l bytes ∷ past_of log written; written = n; room = room; allowed = allowed }) size

-- a log in two parts
pub bytes_both : (log more : List Logged) → bytes_in (log ++ more) ≡ bytes_in log + bytes_in more
bytes_both [] more = omega arith
bytes_both (l ∷ log) more = omega (arith, bytes_both log more)

calls_both : (log more : List Logged) (written : List ℕ) → calls_of (log ++ more) written ≡ calls_of log written ++ calls_of more (drop (bytes_in log) written)
calls_both [] more written = refl
calls_both (l ∷ log) more written =
    ap (λ (cs : List DiskCall). call_at l written ∷ cs)
    (calls_both log more (drop (count_of l) written)
    ∙ ap (λ (b : List ℕ). calls_of log (drop (count_of l) written) ++ calls_of more b) (drop-drop (bytes_in log) (count_of l) written))

pub past_both : (log more : List Logged) (written : List ℕ) → past_of (log ++ more) written ≡ past_of more (drop (bytes_in log) written) ++ past_of log written
past_both log more written = ap reverse (calls_both log more written) ∙ reverse-append (calls_of log written) (calls_of more (drop (bytes_in log) written))

-- a walk over a log, one call on
pub past_step : (log : List Logged) (i from : ℕ) (d : Logged) (written : List ℕ) → i < length log → from ≡ bytes_in (take i log)
    → past_of (take (i + 1) log) written ≡ call_at (get_or log i d) (drop from written) ∷ past_of (take i log) written
past_step log i from d written within is =
    ap (λ (l : List Logged). past_of l written) (take_more log i d within)
    ∙ past_more (take i log) (get_or log i d) written
    ∙ ap (λ (n : ℕ). call_at (get_or log i d) (drop n written) ∷ past_of (take i log) written) (sym is)

pub bytes_step : (log : List Logged) (i : ℕ) (d : Logged) → i < length log → bytes_in (take (i + 1) log) ≡ bytes_in (take i log) + count_of (get_or log i d)
bytes_step log i d within = ap bytes_in (take_more log i d within) ∙ bytes_more (take i log) (get_or log i d)

pub bytes_left : (log : List Logged) (i : ℕ) (d : Logged) → i < length log → bytes_in (drop i log) ≡ count_of (get_or log i d) + bytes_in (drop (i + 1) log)
bytes_left log i d within = ap bytes_in (drop_more log i d within)

no_sync_behind : (l : Logged) (log : List Logged) → HasNoSync (l ∷ log) → HasNoSync (l ∷ []) × HasNoSync log
no_sync_behind (logged.Wrote at count done) log none = (tt, none)
no_sync_behind (logged.CutTo to done) log none = (tt, none)
no_sync_behind logged.Synced log none = absurd none

-- no sync comes next, nor behind that
pub no_sync_next : (log : List Logged) (i : ℕ) (d : Logged) → i < length log → HasNoSync (drop i log) → HasNoSync (get_or log i d ∷ []) × HasNoSync (drop (i + 1) log)
no_sync_next log i d within none = no_sync_behind (get_or log i d) (drop (i + 1) log) (subst HasNoSync (drop_more log i d within) none)

-- nor where a call that is none joins
pub no_sync_more : (log : List Logged) (l : Logged) → HasNoSync log → HasNoSync (l ∷ []) → HasNoSync (log ++ l ∷ [])
no_sync_more [] l none one = one
no_sync_more (logged.Wrote at count done ∷ log) l none one = no_sync_more log l none one
no_sync_more (logged.CutTo to done ∷ log) l none one = no_sync_more log l none one
no_sync_more (logged.Synced ∷ log) l none one = absurd none

pub not_sync : (l : Logged) → (l ≡ logged.Synced → ⊥) → HasNoSync (l ∷ [])
not_sync (logged.Wrote at count done) other = tt
not_sync (logged.CutTo to done) other = tt
not_sync logged.Synced other = absurd (other refl)
