-- What the parts of a request are read as, by the facts that the code meets.
use Rattle.std.proofs.Common.{◌≡◌, ◌≢◌, ◌∙◌, sym, ap, inl, ℕ, ◌≤◌, List, map, take, drop, All, Bool, true, false, Result, Err, Ok, MatchResult, refl, arith, IsUtf8}
use Rattle.std.specs.Str.{is_utf8}
use Rattle.std.proofs.lemmas.Str.{IsUtf8-from_is_utf8, is_utf8-from_IsUtf8}
use Rattle.httparse.specs.declared.spans.HeaderSpan.{HeaderSpan}
use Rattle.httparse.specs.declared.spans.RequestSpans.{RequestSpans}
use Rattle.httparse.specs.Spans.{IsHeaderWithin, IsRequestAt, IsRequestOf, span_bytes, header_bytes}
use Rattle.httparse.specs.Grammar.{RequestHead}
use Rattle.cs_http.specs.declared.fault.WireFault.{WireFault}
use Rattle.cs_http.specs.declared.reading.Request.{Request}
use Rattle.cs_http.specs.Reading.{text_reading, head_reading, fields_of, request_reading, IsReading}
use Rattle.cs_http.specs.Span.{spans_reading}

pub is_no_text : (body : List ℕ) (b : Bool) → is_utf8 body ≡ b → ¬ (IsUtf8 body) → is_utf8 body ≡ false
is_no_text body true e bad = absurd (bad (IsUtf8-from_is_utf8 body e))
is_no_text body false e bad = e

-- a body that is no text
pub no_text : (body : List ℕ) → ¬ (IsUtf8 body) → text_reading body ≡ Err WireFault.BadText
no_text body bad = let e = is_no_text body (is_utf8 body) refl bad in rw e refl

-- a body that is a text
pub text : (body : List ℕ) → IsUtf8 body → text_reading body ≡ Ok body
text body is = let e = is_utf8-from_IsUtf8 body is in rw e refl

-- fields that lie in the first n bytes lie in more
pub all_within : (n m : ℕ) (fields : List HeaderSpan) → n ≤ m → All (IsHeaderWithin n) fields → All (IsHeaderWithin m) fields
all_within n m fields h a = λ k d lt. let x = a k d lt in ((x.0.0, omega (arith, x.0.1, h)), (x.1.0, omega (arith, x.1.1, h)))

-- what the places say is what the head says
spans_are : (bytes : List ℕ) (headers : List HeaderSpan) (r : RequestSpans) (h : RequestHead) → IsRequestAt bytes headers r h → spans_reading bytes headers r ≡ request_reading h (drop r.len bytes)
unfolding request_reading
spans_are bytes headers r h at =
    ap (λ m. head_reading m (span_bytes bytes r.path) (map (header_bytes bytes) (take r.headers headers)) r.len (drop r.len bytes)) at.method
    ∙ ap (λ t. head_reading h.method t (map (header_bytes bytes) (take r.headers headers)) r.len (drop r.len bytes)) at.path
    ∙ ap (λ fs. head_reading h.method h.target fs r.len (drop r.len bytes)) at.fields
    ∙ ap (λ n. head_reading h.method h.target (fields_of h) n (drop r.len bytes)) at.len

-- what is answered by the places is answered by the bytes
pub asked_is : (bytes : List ℕ) (headers : List HeaderSpan) (r : RequestSpans) → IsRequestOf bytes headers r → (a : Result Request WireFault)
    → MatchResult a (λ q. spans_reading bytes headers r ≡ Ok q.body) (λ e. e ≢ WireFault.Memory → spans_reading bytes headers r ≡ Err e)
    → MatchResult a (λ q. IsReading bytes (Ok q.body)) (λ e. e ≢ WireFault.Memory → IsReading bytes (Err e))
asked_is bytes headers r of (Ok q) given =
    inl (record { head = of.0; rest = drop r.len bytes; reads = of.1.reads; is = sym given ∙ spans_are bytes headers r of.0 of.1 })
asked_is bytes headers r of (Err e) given =
    λ n. inl (record { head = of.0; rest = drop r.len bytes; reads = of.1.reads; is = sym (given n) ∙ spans_are bytes headers r of.0 of.1 })
