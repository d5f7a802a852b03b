-- A connection that was untouched before its serving was served rightly.
use Rattle.std.proofs.Common.{◌≡◌, ◌<◌, ℕ, List, ◌++◌, Option, None, Some, Ok, Err, refl, sym, ap, subst, ◌∙◌, inr, arith}
use Rattle.std.specs.Prelude.{IfSome}
use Rattle.std.specs.Io.KnownBytes.{Appends, Keeps, IsAtEnd}
use Rattle.cs_device.specs.Causes.{Rose}
use Rattle.cs_script.specs.Database.{Database}
use Rattle.cs_http.specs.declared.fault.WireFault.{WireFault}
use Rattle.cs_http.specs.Reading.{IsReading}
use Rattle.cs_connection.specs.declared.conn.Served.{Served}
use Rattle.cs_connection.specs.Given.{IsNothing, IsUntouched}
use Rattle.cs_serve.specs.Answer.{Refused, Misspelled, Queried, IsAnswerTo, IsAnswerToBody, fault_answer}
use Rattle.cs_serve.specs.Requests.{IsAnswerable, IsTooLong, IsCut}
use Rattle.cs_serve.specs.Served.{StaysSilent, IsServedRightly}
use Rattle.cs_serve.specs.Serving.{IsAnswered, IsCutOff, IsOverlong, IsServing, HasServedCause}

some_none : {xs : List ℕ} → Some xs ≡ None → ⊥
some_none e = cc

-- what was added to nothing is all
told_by : (P : List ℕ → Type 0) (old new : Option (List ℕ)) (bytes : List ℕ) → IsNothing old → Appends old new bytes → StaysSilent old new → P bytes → IfSome new P
told_by P None None bytes none adds stays p = tt
told_by P None (Some ys) bytes none adds stays p = absurd (some_none (stays refl))
told_by P (Some xs) None bytes none adds stays p = absurd adds
told_by P (Some xs) (Some ys) bytes none adds stays p = subst P (sym (adds ∙ ap (λ (t : List ℕ). t ++ bytes) none)) p

nothing_still : (old new : Option (List ℕ)) → IsNothing old → Keeps old new → StaysSilent old new → IsNothing new
nothing_still None None none keeps stays = tt
nothing_still None (Some ys) none keeps stays = absurd (some_none (stays refl))
nothing_still (Some xs) None none keeps stays = absurd keeps
nothing_still (Some xs) (Some ys) none keeps stays = keeps ∙ none

rose_some : (before now : ℕ) → Rose before now → 0 < now
rose_some before now rose = omega (arith, rose)

module _ (db : Database) (moment : ℕ) (gone now_gone left written now_written : Option (List ℕ)) (faults now_faults : ℕ) (untouched : IsUntouched gone written) (silent : StaysSilent gone now_gone) (still : StaysSilent written now_written) where
  answered_rightly : IsAnswered db moment gone now_gone written now_written → IfSome now_gone (λ x. IfSome now_written (IsAnswerTo db moment x))
  answered_rightly a = told_by (λ x. IfSome now_written (IsAnswerTo db moment x)) gone now_gone a.request untouched.unread a.read silent
      (told_by (IsAnswerTo db moment a.request) written now_written a.answer untouched.unwritten a.put still a.answers)

  pub rightly : (served : Served) → IsServing db moment gone now_gone left written now_written served → HasServedCause faults now_faults served → IsServedRightly db moment now_gone left now_written now_faults served
  rightly Served.Answered is cause = answered_rightly is
  rightly Served.ReadFault is cause = rose_some faults now_faults cause.1
  rightly Served.WriteFault is cause = rose_some faults now_faults cause.1
  rightly Served.RequestCut is cause = (nothing_still written now_written untouched.unwritten is.kept still, is.end, told_by IsCut gone now_gone is.request untouched.unread is.read silent is.cut)
  rightly Served.RequestTooLong is cause = (
    told_by IsTooLong gone now_gone is.request untouched.unread is.read silent is.long,
    told_by (λ bytes. bytes ≡ fault_answer WireFault.TooLong) written now_written (fault_answer WireFault.TooLong) untouched.unwritten is.put still refl,
  )
  rightly Served.Memory is cause = tt

-- ---- what was read, and then answered

appends_keeps : (a b c : Option (List ℕ)) (xs : List ℕ) → Appends a b xs → Keeps b c → Appends a c xs
appends_keeps None b c xs h k = tt
appends_keeps (Some a) None c xs h k = absurd h
appends_keeps (Some a) (Some b) None xs h k = absurd k
appends_keeps (Some a) (Some b) (Some c) xs h k = k ∙ h

keeps_appends : (a b c : Option (List ℕ)) (xs : List ℕ) → Keeps a b → Appends b c xs → Appends a c xs
keeps_appends None b c xs h k = tt
keeps_appends (Some a) None c xs h k = absurd h
keeps_appends (Some a) (Some b) None xs h k = absurd k
keeps_appends (Some a) (Some b) (Some c) xs h k = k ∙ ap (λ (t : List ℕ). t ++ xs) h

-- the answer to a request's body is that to the request
answers_request : (db : Database) (moment : ℕ) (request body answer : List ℕ) → IsReading request (Ok body) → IsAnswerToBody db moment body answer → IsAnswerTo db moment request answer
answers_request db moment request body answer reads (Refused fault, asks, is) = absurd asks
answers_request db moment request body answer reads (Misspelled place, asks, is) = (Misspelled place, (body, reads, asks), is)
answers_request db moment request body answer reads (Queried query, asks, is) = (Queried query, (body, reads, asks), is)

module _ (db : Database) (moment : ℕ) (gone mid_gone now_gone written mid_written now_written : Option (List ℕ)) where
  pub body_answered : (body : List ℕ) → (bytes : List ℕ) × Appends gone mid_gone bytes × IsReading bytes (Ok body) → Keeps written mid_written → Keeps mid_gone now_gone
      → (answer : List ℕ) × IsAnswerToBody db moment body answer × Appends mid_written now_written answer → IsAnswered db moment gone now_gone written now_written
  body_answered body (bytes, read, reads) kept gone_kept (answer, answers, put) = record {
    request = bytes;
    answer = answer;
    read = appends_keeps gone mid_gone now_gone bytes read gone_kept;
    put = keeps_appends written mid_written now_written answer kept put;
    answers = answers_request db moment bytes body answer reads answers;
  }

  pub fault_answered : (fault : WireFault) → (bytes : List ℕ) × Appends gone mid_gone bytes × (IsReading bytes (Err fault) × IsAnswerable fault) → Keeps written mid_written → Keeps mid_gone now_gone
      → Appends mid_written now_written (fault_answer fault) → IsAnswered db moment gone now_gone written now_written
  fault_answered fault (bytes, read, is) kept gone_kept put = record {
    request = bytes;
    answer = fault_answer fault;
    read = appends_keeps gone mid_gone now_gone bytes read gone_kept;
    put = keeps_appends written mid_written now_written (fault_answer fault) kept put;
    answers = (Refused fault, is, refl);
  }

  pub overlong : (bytes : List ℕ) × Appends gone mid_gone bytes × IsTooLong bytes → Keeps written mid_written → Keeps mid_gone now_gone
      → Appends mid_written now_written (fault_answer WireFault.TooLong) → IsOverlong gone now_gone written now_written
  overlong (bytes, read, long) kept gone_kept put = record {
    request = bytes;
    read = appends_keeps gone mid_gone now_gone bytes read gone_kept;
    long = long;
    put = keeps_appends written mid_written now_written (fault_answer WireFault.TooLong) kept put;
  }

pub cut_off : (gone now_gone left written now_written : Option (List ℕ)) → (bytes : List ℕ) × Appends gone now_gone bytes × (IsAtEnd left × IsReading bytes (Err WireFault.Partial)) → Keeps written now_written → IsCutOff gone now_gone left written now_written
cut_off got now_got left written now_written (bytes, read, is) kept = record { request = bytes; read = read; cut = inr is.1; end = is.0; kept = kept }
