-- An honest answer begins with a head that is taken, and ends with a closing: over a connection that never fails no call fails.
use Rattle.std.proofs.Common.{◌≡◌, ◌∙◌, sym, ap, subst, refl, inl, inr, ⊎_elim, true≢false, ℕ, ◌≤◌, false, List, [], ◌∷◌, ◌++◌, length, map, take, drop, arith, Ok, Err}
use Rattle.std.specs.declared.option.Option.{Option}
use Rattle.std.specs.declared.result.Result.{Result}
use Rattle.std.proofs.Math.Seq.{take-append_seam}
use Rattle.std.proofs.lemmas.List.{append_assoc, append-nil, take-append-le, take-append-drop}
use Rattle.std.specs.Io.KnownBytes.{Consumes, IsAtEnd}
use Rattle.httparse.specs.Grammar.{ResponseHead, IsResponseHead, print_response, ReadsResponse, HasNoResponse}
use Rattle.httparse.specs.Spans.{name_and_value}
use Rattle.httparse.proofs.GrammarLemmas.{response_prefix_free}
use Rattle.cs_device.specs.Causes.{Rose}
use Rattle.cs_link.specs.declared.feed.Feed.{Feed}
use Rattle.cs_link.specs.declared.reading.ReadArgs.{ReadArgs}
use Rattle.cs_link.specs.declared.refusal.LinkAnswer.{LinkAnswer}
use Rattle.cs_http.specs.Fields.{is_coded}
use Rattle.cs_http.specs.Front.{IsNotTaken}
use Rattle.cs_http.specs.Refusal.{answer_head_text, refusal_head_text}
use Rattle.cs_wire.specs.Answers.{lines_text, IsHonestAnswerText}
use Rattle.cs_wire.specs.Opened.{IsFresh, IsNoHead, HasNoStatus, HasStatus, IsOpened}
use Rattle.cs_wire.specs.Told.{SoFarRead, known}
use Rattle.cs_wire.proofs.Going.{consumes_some}
use Rattle.cs_wire.proofs.Heads.{answer_head, refusal_head, is_answer, is_refusal, answer_printed, refusal_printed, answer_front, refusal_front, refusal_is}
use Rattle.cs_wire.proofs.Opening.{at_end, began}

-- a head that is taken, with its text
pub record IsTaken (k : ResponseHead) (text : List ℕ) : Type 0 where
  pub is : IsResponseHead k
  pub printed : print_response k ≡ text
  pub short : length text ≤ 8192
  pub plain : is_coded (map name_and_value k.fields) ≡ false

answer_taken : IsTaken answer_head answer_head_text
answer_taken = record { is = is_answer; printed = answer_printed; short = omega arith; plain = refl }

refusal_taken : IsTaken refusal_head refusal_head_text
refusal_taken = record { is = is_refusal; printed = refusal_printed; short = omega arith; plain = refl }

taken_so : (k : ResponseHead) (text : List ℕ) → IsTaken k text → IsNotTaken k → ⊥
taken_so k text t n = ⊎_elim (λ x. omega (arith, x, ap length t.printed, t.short)) (λ x. true≢false (sym x ∙ t.plain)) n

-- where such a head stands at the front of a text, it is found
no_head_so : (k : ResponseHead) (text rest held : List ℕ) (left : Option (List ℕ)) → IsTaken k text → held ++ known left ≡ text ++ rest → IsNoHead left held → ⊥
no_head_so k text rest held left t e n =
    let reads : ReadsResponse (held ++ known left) k rest = (t.is, e ∙ ap (λ xs. xs ++ rest) (sym t.printed)) in
    ⊎_elim (λ x. taken_so k text t (subst IsNotTaken (response_prefix_free held (known left) x.head k x.rest rest x.reads reads).0 x.other))
    (λ y. ⊎_elim (λ x. taken_so k text t (x (known left) k rest reads)) (λ x. ⊎_elim (ended reads x.0) (long x.0) x.1) y) n
  where
    ended : ReadsResponse (held ++ known left) k rest → HasNoResponse held → IsAtEnd left → ⊥
    ended reads none x = none k rest (subst (λ xs. ReadsResponse xs k rest) (ap (λ xs. held ++ xs) (at_end left x) ∙ append-nil held) reads)

    long : HasNoResponse held → 8192 ≤ length held → ⊥
    long none x =
        let fits : length text ≤ length held = omega (arith, t.short, x) in
        let front : take (length text) held ≡ text = sym (take-append-le (length text) held (known left) fits) ∙ ap (take (length text)) e ∙ take-append_seam text rest in
        let whole : held ≡ print_response k ++ drop (length text) held = sym (take-append-drop (length text) held) ∙ ap (λ xs. xs ++ drop (length text) held) (front ∙ sym t.printed) in
        none k (drop (length text) held) (t.is, whole)

abbrev pub fault_or : {T : Type 0} → LinkAnswer → Result T LinkAnswer → LinkAnswer
fault_or none (Ok t) = none
fault_or none (Err e) = e

pub rose_above : (before now : ℕ) → Rose before now → now ≡ 0 → ⊥
rose_above before now r e = omega (arith, r, e)

-- `open` does not fail over an honest answer
pub open_never_fails : (f : Feed) (args : ReadArgs) (m : ℕ) (text : List ℕ) (a : SoFarRead) (g0 l0 : Option (List ℕ)) → IsHonestAnswerText f args m text → IsFresh g0 l0 text → (before : ℕ) → a.faults ≡ 0
    → IsOpened g0 a.gone l0 a.left [] a.held a.head before a.faults (Err LinkAnswer.Failed) → ⊥
open_never_fails f args m text a g0 l0 h fresh before quiet opened =
    ⊎_elim (λ r. rose_above before a.faults r quiet) (λ y. ⊎_elim (headless h) (other h) y) opened
  where
    whole : HasNoStatus g0 a.gone l0 a.left [] a.held a.head → a.held ++ known a.left ≡ text
    whole n =
        let took = consumes_some text n.read.bytes a.left (subst (λ (o : Option (List ℕ)). Consumes o a.left n.read.bytes) fresh.1 n.read.taken) in
        ap (λ xs. xs ++ known a.left) n.read.kept ∙ sym took.1

    headless : IsHonestAnswerText f args m text → HasNoStatus g0 a.gone l0 a.left [] a.held a.head → ⊥
    headless (inl g) n = no_head_so answer_head answer_head_text (lines_text g.lines) a.held a.left answer_taken (whole n ∙ g.text) n.why
    headless (inr r) n = no_head_so refusal_head refusal_head_text (r.line ++ 10 ∷ []) a.held a.left refusal_taken (whole n ∙ r.text ∙ refusal_is r.line ∙ append_assoc refusal_head_text r.line (10 ∷ [])) n.why

    other : IsHonestAnswerText f args m text → HasStatus g0 a.gone l0 a.left [] a.held a.head 503 → ⊥
    other (inl g) s =
        let b = began text a g0 l0 503 fresh s in
        let front = answer_front s.front (a.held ++ known a.left) (lines_text g.lines) 503 ∣ s.is ∣₁ (sym (append_assoc s.front a.held (known a.left)) ∙ sym b.whole ∙ g.text) in
        absurd (omega (arith, front.0))
    other (inr r) s =
        let b = began text a g0 l0 503 fresh s in
        let front = refusal_front s.front (a.held ++ known a.left) (r.line ++ 10 ∷ []) 503 ∣ s.is ∣₁ (sym (append_assoc s.front a.held (known a.left)) ∙ sym b.whole ∙ r.text ∙ refusal_is r.line ∙ append_assoc refusal_head_text r.line (10 ∷ [])) in
        absurd (omega (arith, front.0))

pub begin_never_fails : (f : Feed) (args : ReadArgs) (m : ℕ) (text : List ℕ) (g0 g1 l0 l1 : Option (List ℕ)) (h0 h1 : List ℕ) (head before now : ℕ) (result : Result (Unit {0}) LinkAnswer) → h0 ≡ [] → IsHonestAnswerText f args m text → IsFresh g0 l0 text → now ≡ 0
    → IsOpened g0 g1 l0 l1 h0 h1 head before now result → result ≡ Err LinkAnswer.Failed → ⊥
begin_never_fails f args m text g0 g1 l0 l1 h0 h1 head before now result none h fresh quiet x e =
    open_never_fails f args m text (record { gone = g1; left = l1; held = h1; head = head; faults = now }) g0 l0 h fresh before quiet
    (subst (λ (r : Result (Unit {0}) LinkAnswer). IsOpened g0 g1 l0 l1 [] h1 head before now r) e (subst (λ (xs : List ℕ). IsOpened g0 g1 l0 l1 xs h1 head before now result) none x))
