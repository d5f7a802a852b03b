-- A READ that no refusal meets is one that its part accepts.
use Rattle.std.proofs.Common.{◌≡◌, ℕ, ◌-◌, ◌*◌, ◌<◌, ◌≤◌, Bool, true, false, ◌||◌, cond, nat_le, nat_lt, List, Option, None, Some, refl, sym, ◌∙◌, arith}
use Rattle.std.specs.Option.{option_or, unwrap_or}
use Rattle.std.proofs.lemmas.Bool.{ltb-false, leb-false}
use Rattle.cs_place.specs.declared.part.Part.{Part}
use Rattle.cs_place.specs.Part.{IsBefore}
use Rattle.cs_partitions.specs.Reshape.{part_named}
use Rattle.cs_link.specs.declared.reading.ReadArgs.{ReadArgs}
use Rattle.cs_link.specs.declared.refusal.ReadRefusal.{ReadRefusal}
use Rattle.cs_link.specs.Reading.{end_of}
use Rattle.cs_steps.specs.Honest.{IsAccepted}
use Rattle.cs_steps.specs.Refusals.{ends_before, time_refusal, past_refusal, part_refusal, found_refusal, token_refusal, refusal_by}
use Rattle.cs_read.specs.Asked.{asked_of}
use Rattle.cs_read.proofs.Named.{named_some}

passed : {A : Type 0} (b : Bool) (x : A) (rest : Option A) → cond b (Some x) rest ≡ None → (b ≡ false) × (rest ≡ None)
passed true x rest e = cc
passed false x rest e = (refl, e)

pub or_none : {A : Type 0} (a b : Option A) → option_or a b ≡ None → (a ≡ None) × (b ≡ None)
or_none None b e = (refl, e)
or_none (Some x) b e = cc

neither : (a b : Bool) → (a || b) ≡ false → (a ≡ false) × (b ≡ false)
neither true b e = cc
neither false b e = (refl, e)

-- what the times of an accepted READ are
record IsTimely (args : ReadArgs) (moment : ℕ) : Type 0 where
  heartbeat : 1000 ≤ args.heartbeat_ms
  window : ends_before args.end args.start ≡ false
  past : args.start ≤ moment

timely : (args : ReadArgs) (created retention moment : ℕ) → time_refusal args created retention moment ≡ None → IsTimely args moment
timely args created retention moment e =
    let a = passed (nat_lt args.heartbeat_ms 1000 || nat_lt 300000 args.heartbeat_ms) ReadRefusal.Heartbeat _ e in
    let b = passed (ends_before args.end args.start) ReadRefusal.EndBeforeStart _ a.1 in
    let c = passed (nat_lt args.start created) ReadRefusal.StartBeforeCreation _ b.1 in
    let d = passed (nat_lt args.start (moment - retention)) (ReadRefusal.StartTooOld (moment - retention)) _ c.1 in
    let f = passed (nat_lt moment args.start) (ReadRefusal.StartInFuture moment) None d.1 in
    record {
      heartbeat = ltb-false args.heartbeat_ms 1000 (neither (nat_lt args.heartbeat_ms 1000) (nat_lt 300000 args.heartbeat_ms) a.0).0;
      window = b.0;
      past = ltb-false moment args.start f.0;
    }

lives : (p : Part) (start : ℕ) → part_refusal p start ≡ None → IsBefore start p.until
lives p start e = by p.until (passed (nat_lt start p.from) (ReadRefusal.StartBeforePartition p.from) (past_refusal p.until start) e).1
  where
    by : (o : Option ℕ) → past_refusal o start ≡ None → IsBefore start o
    by None k = tt
    by (Some until) k = leb-false until start (passed (nat_le until start) (ReadRefusal.StartPastPartition until) None k).0

in_window : (end : Option ℕ) (start moment : ℕ) → ends_before end start ≡ false → start ≤ moment → moment ≤ 253402300799999999 → start ≤ unwrap_or end 253402300799999999
in_window None start moment e past most = omega (arith, past, most)
in_window (Some end) start moment e past most = ltb-false end start e

module _ (parts : List Part) (created retention : ℕ) (args : ReadArgs) (moment : ℕ) (none : refusal_by parts created retention args moment ≡ None) where
  -- the part of its token is there
  pub part_found : (token : List ℕ) → args.token ≡ Some token → (p : Part) × (part_named token parts ≡ Some p) × (part_refusal p args.start ≡ None)
  part_found token t = by (part_named token parts) refl found
    where
      at_token : (o : Option (List ℕ)) → o ≡ Some token → token_refusal parts o args.start ≡ None → found_refusal (part_named token parts) args.start ≡ None
      at_token None s k = cc
      at_token (Some other) s k = cc

      found : found_refusal (part_named token parts) args.start ≡ None
      found = at_token args.token t (or_none (time_refusal args created retention moment) (token_refusal parts args.token args.start) none).1

      by : (o : Option Part) → part_named token parts ≡ o → found_refusal o args.start ≡ None → (p : Part) × (part_named token parts ≡ Some p) × (part_refusal p args.start ≡ None)
      by None s k = cc
      by (Some p) s k = (p, s, k)

  pub accepted : (token : List ℕ) (p : Part) → moment ≤ 253402300799999999 → part_named token parts ≡ Some p → part_refusal p args.start ≡ None → IsAccepted parts (asked_of args moment p)
  accepted token p most named part =
      let t = timely args created retention moment (or_none (time_refusal args created retention moment) (token_refusal parts args.token args.start) none).0 in
      record {
        there = (named_some token parts p named).0;
        window = in_window args.end args.start moment t.window t.past most;
        past = t.past;
        lives = lives p args.start part;
        gap = omega (arith, t.heartbeat);
      }
