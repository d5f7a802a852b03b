-- What an honest READ gives, with a part or without one.
use Rattle.std.proofs.Common.{◌≡◌, ◌≢◌, ◌⊎◌, ℕ, ◌<◌, ◌≤◌, true, false, List, Option, Some, None, ⊎_elim, inl, inr, refl, ap, ◌∙◌, sym, subst, true≢false, is_eq, Contains}
use Rattle.std.specs.List.{list_any}
use Rattle.std.specs.Option.{unwrap_or}
use Rattle.std.specs.Cmp.{eq_by_cmp_equiv}
use Rattle.std.specs.Cmp.Lexicographic.{slice_cmp, nat_list_cmp_total}
use Rattle.std.specs.Ordering.{nat_cmp}
use Rattle.std.proofs.lemmas.Bool.{cases_Bool, cases_lt}
use Rattle.cs_place.specs.declared.part.Part.{Part}
use Rattle.cs_place.specs.Part.{IsBefore}
use Rattle.cs_link.specs.declared.batch.Known.{Known}
use Rattle.cs_link.specs.declared.feed.Feed.{Feed}
use Rattle.cs_link.specs.declared.reading.ReadArgs.{ReadArgs}
use Rattle.cs_link.specs.declared.refusal.ReadRefusal.{ReadRefusal}
use Rattle.cs_link.specs.Batch.{IsFaithfulOf}
use Rattle.cs_fetch.specs.Fetch.{Outcome, Goes, Gives, Breaks, Stalls, outcome_of}
use Rattle.cs_link.specs.Honest.{HasHonestSteps, IsHonestAnswer}
use Rattle.cs_fetch.specs.Laws.{IsFaithfulOutcome, HonestGivesFaithful}
use Rattle.cs_link.specs.Reading.{end_of}
use Rattle.cs_link.specs.Refusal.{IsAskedFor, IsRefusedBy}
use Rattle.cs_fetch.proofs.Lists.{none_of, some_of}
use Rattle.cs_fetch.proofs.Kids.{IsAccepted, token_same}
use Rattle.cs_fetch.proofs.Gives.{Suits, all_faithful}
use Rattle.cs_fetch.proofs.First.{SuitsFirst, first_faithful}

-- the part of a token
part_of : (parts : List Part) (token : List ℕ) → ((p : Part) × Contains parts p × (p.token ≡ token)) ⊎ ((p : Part) → Contains parts p → p.token ≢ token)
part_of parts token = by (cases_Bool (list_any (λ (p : Part). is_eq (slice_cmp nat_cmp p.token token)) parts))
  where
    by : (list_any (λ (p : Part). is_eq (slice_cmp nat_cmp p.token token)) parts ≡ true) ⊎ (list_any (λ (p : Part). is_eq (slice_cmp nat_cmp p.token token)) parts ≡ false) → ((p : Part) × Contains parts p × (p.token ≡ token)) ⊎ ((p : Part) → Contains parts p → p.token ≢ token)
    by (inl h) = let u = some_of (λ (p : Part). is_eq (slice_cmp nat_cmp p.token token)) parts h in inl (u.0, u.1, token_same u.0.token token (slice_cmp nat_cmp u.0.token token) refl u.2)
    by (inr h) = inr (λ p i s. true≢false (sym (ap (λ z. is_eq (slice_cmp nat_cmp z token)) s ∙ (eq_by_cmp_equiv nat_list_cmp_total).refl token) ∙ none_of (λ (p : Part). is_eq (slice_cmp nat_cmp p.token token)) p parts h i))

module _ (f : Feed) (args : ReadArgs) (m : ℕ) (no : (refusal : ReadRefusal) → IsRefusedBy f args m refusal → ⊥) where
  created : f.created ≤ args.start
  created = ⊎_elim (λ (l : args.start < f.created). absurd (no ReadRefusal.StartBeforeCreation l)) (λ (l : f.created ≤ args.start). l) (cases_lt args.start f.created)

  past : args.start ≤ m
  past = ⊎_elim (λ (l : m < args.start). absurd (no (ReadRefusal.StartInFuture m) (refl, l))) (λ (l : args.start ≤ m). l) (cases_lt m args.start)

  window : args.start ≤ 253402300799999999 → args.start ≤ end_of args
  window small = by args.end refl
    where
      by : (o : Option ℕ) → args.end ≡ o → args.start ≤ unwrap_or o 253402300799999999
      by None s = small
      by (Some end) s = ⊎_elim (λ (l : end < args.start). absurd (no ReadRefusal.EndBeforeStart (end, s, l))) (λ (l : args.start ≤ end). l) (cases_lt end args.start)

  accepted : args.start ≤ 253402300799999999 → (p : Part) → Contains f.parts p → args.token ≡ Some p.token → IsAccepted f p args.start (end_of args) m
  accepted small p i t =
      record {
        there = i;
        created = created;
        window = window small;
        past = past;
        born = ⊎_elim (λ (l : args.start < p.from). absurd (no (ReadRefusal.StartBeforePartition p.from) (p, asked, refl, l))) (λ (l : p.from ≤ args.start). l) (cases_lt args.start p.from);
        lives = by p.until refl;
      }
    where
      asked : IsAskedFor f args p
      asked = record { there = i; token = t }

      by : (o : Option ℕ) → p.until ≡ o → IsBefore args.start o
      by None s = tt
      by (Some until) s = ⊎_elim (λ (l : args.start < until). l) (λ (l : until ≤ args.start). absurd (no (ReadRefusal.StartPastPartition until) (p, asked, s, l))) (cases_lt args.start until)

  pub there : (token : List ℕ) → args.token ≡ Some token → (p : Part) × Contains f.parts p × (p.token ≡ token)
  there token s = ⊎_elim (λ (h : (p : Part) × Contains f.parts p × (p.token ≡ token)). h) (λ (h : (p : Part) → Contains f.parts p → p.token ≢ token). absurd (no ReadRefusal.UnknownToken (token, s, h))) (part_of f.parts token)

faithful_part : (f : Feed) (e : ℕ) (known : Known) (q : Part) (there : Contains f.parts q) (outcome : Outcome) (token : Option (List ℕ)) → token ≡ Some q.token → Suits f e known q token outcome → IsFaithfulOutcome f e known outcome
faithful_part f e known q there Goes token t h = tt
faithful_part f e known q there (Gives b) token t h = subst (IsFaithfulOf f e known b) (sym (h.0 ∙ t)) (q, there, refl, h.1)
faithful_part f e known q there (Breaks breach) token t h = h
faithful_part f e known q there Stalls token t h = h

faithful_first : (f : Feed) (e : ℕ) (known : Known) (outcome : Outcome) (token : Option (List ℕ)) → token ≡ None → SuitsFirst f token outcome → IsFaithfulOutcome f e known outcome
faithful_first f e known Goes token t h = tt
faithful_first f e known (Gives b) token t h = subst (IsFaithfulOf f e known b) (sym (h.0 ∙ t)) h.1
faithful_first f e known (Breaks breach) token t h = h
faithful_first f e known Stalls token t h = h

pub honest_faithful : HonestGivesFaithful
honest_faithful f known limits read u F H o small start = by read.args.token refl (subst (λ z. HasHonestSteps f read z) refl H.steps)
  where
    no : (refusal : ReadRefusal) → IsRefusedBy f read.args read.moment refusal → ⊥
    no = subst (λ z. IsHonestAnswer f read.args read.moment z) o H.answer

    by : (token : Option (List ℕ)) → read.args.token ≡ token → HasHonestSteps f read token → IsFaithfulOutcome f (end_of read.args) known (outcome_of read.args known limits read.steps)
    by None s h = faithful_first f (end_of read.args) known (outcome_of read.args known limits read.steps) read.args.token s (first_faithful f F read.args (created f read.args read.moment no) known s limits read.steps h)
    by (Some token) s h =
        let p = there f read.args read.moment no token s in
        let t : read.args.token ≡ Some p.0.token = s ∙ ap Some (sym p.2) in
        let A = accepted f read.args read.moment no small p.0 p.1 t in
        faithful_part f (end_of read.args) known p.0 p.1 (outcome_of read.args known limits read.steps) read.args.token t (all_faithful f F p.0 read.args read.moment A known t start limits read.steps (h p.0 p.1 p.2))
