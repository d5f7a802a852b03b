-- The last step of an answer is its end.
use Rattle.std.proofs.Common.{◌≡◌, ◌≢◌, ℕ, Bool, true, false, cond, nat_le, nat_lt, List, [], ◌∷◌, ◌++◌, take, length, Option, None, Some, refl, sym, ap, ◌∙◌}
use Rattle.std.proofs.lemmas.Bool.{false≢true}
use Rattle.std.specs.Option.{option_or}
use Rattle.cs_place.specs.declared.part.Part.{Part}
use Rattle.cs_records.specs.declared.captured.Captured.{Captured}
use Rattle.cs_records.specs.declared.records.Child.{Child}
use Rattle.cs_partitions.specs.Reshape.{part_named}
use Rattle.cs_link.specs.declared.reading.Closing.{Closing}
use Rattle.cs_link.specs.declared.reading.ReadArgs.{ReadArgs}
use Rattle.cs_link.specs.declared.reading.Step.{Step}
use Rattle.cs_link.specs.declared.refusal.ReadRefusal.{ReadRefusal}
use Rattle.cs_link.specs.Reading.{is_closing}
use Rattle.cs_steps.specs.Captures.{captured_items}
use Rattle.cs_steps.specs.Refusals.{time_refusal, found_refusal, token_refusal, refusal_by}
use Rattle.cs_steps.specs.Steps.{Asked, paced, child_steps, children_of, live_at, has_ended, closing, ending, cut_off, top_of, records_for, steps_of_part}
use Rattle.cs_script.specs.Database.{Database}
use Rattle.cs_read.specs.Answers.{StreamRead, stream_steps}
use Rattle.cs_read.specs.Asked.{asked_of, steps_of_named, steps_by_token, steps_asked}
use Rattle.cs_read.specs.Honest.{given_as}
use Rattle.cs_server.specs.State.{answer_to}
use Rattle.cs_server.specs.Typed.{read_typed, refusal_to, refusal_of, steps_of, steps_given}

-- whether the last step is an end
abbrev pub ends : List Step → Bool
ends [] = false
ends (x ∷ []) = is_closing x
ends (x ∷ (y ∷ ys)) = ends (y ∷ ys)

pub ends_behind : (xs ys : List Step) → ends ys ≡ true → ends (xs ++ ys) ≡ true
ends_behind [] ys e = e
ends_behind (x ∷ []) [] e = absurd (false≢true e)
ends_behind (x ∷ []) (y ∷ ys) e = e
ends_behind (x ∷ (z ∷ xs)) ys e = ends_behind (z ∷ xs) ys e

-- the last one alone tells
pub ends_with : (xs : List Step) (x : Step) → ends (xs ++ x ∷ []) ≡ is_closing x
ends_with [] x = refl
ends_with (y ∷ []) x = refl
ends_with (y ∷ (z ∷ xs)) x = ends_with (z ∷ xs) x

pub not_empty : (xs : List Step) → ends xs ≡ true → xs ≢ []
not_empty xs e is = false≢true (ap ends (sym is) ∙ e)

closing_ends : (end moment : ℕ) → ends (closing end moment) ≡ true
closing_ends end moment = by (nat_le end moment)
  where
    by : (t : Bool) → ends (cond t (Step.Closing Closing.Finished ∷ []) (Step.Closing (Closing.CaughtUp moment) ∷ [])) ≡ true
    by true = refl
    by false = refl

ending_ends : (children : List Child) (end moment : ℕ) (until : Option ℕ) → ends (ending children end moment until) ≡ true
ending_ends children end moment None = closing_ends end moment
ending_ends children end moment (Some until) = by (has_ended end moment (Some until))
  where
    by : (t : Bool) → ends (cond t (child_steps until children ++ Step.Closing Closing.Finished ∷ []) (closing end moment)) ≡ true
    by true = ends_behind (child_steps until children) (Step.Closing Closing.Finished ∷ []) refl
    by false = closing_ends end moment

cut_ends : (most : ℕ) (records rest : List Step) → ends rest ≡ true → ends (cut_off most records rest) ≡ true
cut_ends most records rest e = by (nat_lt most (length records))
  where
    by : (t : Bool) → ends (cond t (take most records ++ Step.Closing Closing.Cut ∷ []) (records ++ rest)) ≡ true
    by true = ends_behind (take most records) (Step.Closing Closing.Cut ∷ []) refl
    by false = ends_behind records rest e

part_ends : (parts : List Part) (items : List Captured) (a : Asked) → ends (steps_of_part parts items a) ≡ true
part_ends parts items a = cut_ends 8192 (paced a.gap (top_of a) a.start (records_for parts items a)) (ending (children_of parts a.part) a.end a.moment a.part.until) (ending_ends (children_of parts a.part) a.end a.moment a.part.until)

or_none : (a b : Option ReadRefusal) → option_or a b ≡ None → b ≡ None
or_none None b e = e
or_none (Some x) b e = cc

named_ends : (parts : List Part) (items : List Captured) (args : ReadArgs) (moment : ℕ) (found : Option Part) → found_refusal found args.start ≡ None → ends (steps_of_named parts items args moment found) ≡ true
named_ends parts items args moment None e = cc
named_ends parts items args moment (Some part) e = part_ends parts items (asked_of args moment part)

token_ends : (parts : List Part) (items : List Captured) (args : ReadArgs) (moment : ℕ) (token : Option (List ℕ)) → token_refusal parts token args.start ≡ None → ends (steps_by_token parts items args moment token) ≡ true
token_ends parts items args moment None e = ends_behind (child_steps args.start (live_at parts args.start)) (Step.Closing Closing.Finished ∷ []) refl
token_ends parts items args moment (Some token) e = named_ends parts items args moment (part_named token parts) e

asked_ends : (parts : List Part) (items : List Captured) (created retention : ℕ) (args : ReadArgs) (moment : ℕ) → refusal_by parts created retention args moment ≡ None → ends (steps_asked parts items args moment) ≡ true
asked_ends parts items created retention args moment e = token_ends parts items args moment args.token (or_none (time_refusal args created retention moment) (token_refusal parts args.token args.start) e)

module _ (db : Database) (moment : ℕ) where
  pub stream_ends : (r : Option StreamRead) → refusal_to r moment ≡ None → ends (stream_steps db r moment) ≡ true
  stream_ends None e = cc
  stream_ends (Some r) e = asked_ends r.parts (captured_items db.tables r.stream db.modifications) r.stream.created r.stream.retention_us r.args moment e

  given_ends : (args : ReadArgs) → steps_given db args moment ≢ [] → ends (steps_given db args moment) ≡ true
  given_ends args some = by (refusal_of db args moment) refl some
    where
      by : (o : Option ReadRefusal) → refusal_of db args moment ≡ o → given_as o (steps_of db args moment) ≢ [] → ends (given_as o (steps_of db args moment)) ≡ true
      by None e h = stream_ends (read_typed db args) e
      by (Some refusal) e h = absurd (h refl)

  pub answer_ends : (o : Option ReadArgs) → answer_to db moment o ≢ [] → ends (answer_to db moment o) ≡ true
  answer_ends None some = absurd (some refl)
  answer_ends (Some args) some = given_ends args some
