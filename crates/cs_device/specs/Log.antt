-- How the calls of a disk in memory are kept: each by itself, the bytes of all writes in one row. This project's own.
use Rattle.std.specs.Prelude.{◌+◌, ℕ, List, [], ◌∷◌, take, drop, reverse, refl}
use Rattle.std.specs.Coded.{Coded, code_by, coded×, coded_ℕ, coded_list}
use Rattle.cs_device.specs.Past.{DiskCall, call_code, Wrote, CutTo, Synced}
use Rattle.cs_device.specs.declared.log.Logged.{Logged}
use Rattle.cs_device.specs.declared.log.Logged.TheVariants as logged

-- how many bytes a call wrote
abbrev pub count_of : Logged → ℕ
count_of (logged.Wrote at count done) = count
count_of (logged.CutTo to done) = 0
count_of logged.Synced = 0

-- the call, where its bytes are the first of these
abbrev pub call_at : Logged → List ℕ → DiskCall
call_at (logged.Wrote at count done) bytes = Wrote at (take count bytes) done
call_at (logged.CutTo to done) bytes = CutTo to done
call_at logged.Synced bytes = Synced

-- how many bytes the calls wrote
abbrev pub bytes_in : List Logged → ℕ
bytes_in [] = 0
bytes_in (l ∷ log) = count_of l + bytes_in log

-- the calls, where these are the bytes that they wrote
abbrev pub calls_of : List Logged → List ℕ → List DiskCall
calls_of [] written = []
calls_of (l ∷ log) written = call_at l written ∷ calls_of log (drop (count_of l) written)

-- the calls, the latest first
abbrev pub past_of : List Logged → List ℕ → List DiskCall
past_of log written = reverse (calls_of log written)

-- none of the calls is a sync
abbrev pub HasNoSync : List Logged → Type 0
HasNoSync [] = Unit {0}
HasNoSync (logged.Synced ∷ log) = ⊥
HasNoSync (logged.Wrote at count done ∷ log) = HasNoSync log
HasNoSync (logged.CutTo to done ∷ log) = HasNoSync log

-- the calls of a disk, the latest first, how many bytes they wrote, and how many bytes and calls there is room for
pub record LogState : Type 0 where
  pub calls : List DiskCall
  pub written : ℕ
  pub room : ℕ
  pub allowed : ℕ

-- it is stored as the tuple of its fields
abbrev pub log_code : Coded LogState
log_code =
    code_by (List DiskCall × (ℕ × (ℕ × ℕ))) (coded× (coded_list call_code) (coded× coded_ℕ (coded× coded_ℕ coded_ℕ))) (λ l. (l.calls, (l.written, (l.room, l.allowed)))) (λ p. record { calls = p.0; written = p.1.0; room = p.1.1.0; allowed = p.1.1.1 }) (λ _. refl)
