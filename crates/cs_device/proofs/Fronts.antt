-- A piece that is written part by part.
use Rattle.std.proofs.Common.{◌+◌, ◌≤◌, ℕ, List, ◌++◌, length, take, drop, Option, None, Some, sym, ap, ◌∙◌, append_assoc, append-nil, arith}
use Rattle.std.specs.Io.KnownBytes.{Keeps, Appends}
use Rattle.std.proofs.Math.Seq.{take-add}
use Rattle.std.proofs.lemmas.List.{take_all}
use Rattle.cs_device.specs.Sink.{TakesFront}

-- at first none was taken
pub none_taken : (old new : Option (List ℕ)) (bytes : List ℕ) → Keeps old new → Appends old new (take 0 bytes)
none_taken None new bytes kept = tt
none_taken (Some x) None bytes kept = absurd kept
none_taken (Some x) (Some y) bytes kept = kept ∙ sym (append-nil x)

-- more of them
pub more_taken : (old mid new : Option (List ℕ)) (bytes : List ℕ) (at n : ℕ) → Appends old mid (take at bytes) → Appends mid new (take n (drop at bytes)) → Appends old new (take (at + n) bytes)
more_taken None mid new bytes at n first next = tt
more_taken (Some x) None new bytes at n first next = absurd first
more_taken (Some x) (Some y) None bytes at n first next = absurd next
more_taken (Some x) (Some y) (Some z) bytes at n first next =
    next ∙ ap (λ l. l ++ take n (drop at bytes)) first ∙ append_assoc x (take at bytes) (take n (drop at bytes)) ∙ ap (λ l. x ++ l) (sym (take-add at n bytes))

-- what is kept and then written is written
pub keeps_appends : (a b c : Option (List ℕ)) (bs : List ℕ) → Keeps a b → Appends b c bs → Appends a c bs
keeps_appends None b c bs h k = tt
keeps_appends (Some xs) None c bs h k = absurd h
keeps_appends (Some xs) (Some ys) None bs h k = absurd k
keeps_appends (Some xs) (Some ys) (Some zs) bs h k = k ∙ ap (λ l. l ++ bs) h

-- no more of them
pub still_taken : (old mid new : Option (List ℕ)) (piece : List ℕ) → Appends old mid piece → Keeps mid new → Appends old new piece
still_taken None mid new piece first kept = tt
still_taken (Some x) None new piece first kept = absurd first
still_taken (Some x) (Some y) None piece first kept = absurd kept
still_taken (Some x) (Some y) (Some z) piece first kept = kept ∙ first

-- all of them
pub all_taken : (old new : Option (List ℕ)) (bytes : List ℕ) (at : ℕ) → length bytes ≤ at → Appends old new (take at bytes) → Appends old new bytes
all_taken None new bytes at le taken = tt
all_taken (Some x) None bytes at le taken = absurd taken
all_taken (Some x) (Some y) bytes at le taken = taken ∙ ap (λ l. x ++ l) (take_all at bytes le)

-- all of them are a front
pub whole_front : (old new : Option (List ℕ)) (bytes : List ℕ) → Appends old new bytes → TakesFront old new bytes
whole_front None new bytes taken = (0, tt)
whole_front (Some x) None bytes taken = absurd taken
whole_front (Some x) (Some y) bytes taken = (length bytes, taken ∙ ap (λ l. x ++ l) (sym (take_all (length bytes) bytes (omega arith))))

-- none of them is one
pub no_front : (old new : Option (List ℕ)) (bytes : List ℕ) → Keeps old new → TakesFront old new bytes
no_front old new bytes kept = (0, none_taken old new bytes kept)
