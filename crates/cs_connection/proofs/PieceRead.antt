use Rattle.std.proofs.Common.{◌≡◌, ◌∙◌, refl, sym, ℕ, ◌+◌, ◌<◌, ◌≤◌, List, [], ◌++◌, length, take, drop, min, arith, length-drop, take-add, append-nil}
use Rattle.std.proofs.Math.ListN.{take-append-drop}
use Rattle.std.proofs.lemmas.List.{drop-drop, nil_from_length}
use Rattle.cs_device.specs.Calls.{Calls, IsLater, passed}
use Rattle.cs_connection.specs.Memory.{IsSameConn, after_read}

-- what was read is what the read gave more
pub gone-more : (bytes new : List ℕ) (at n : ℕ) → take n new ≡ take n (drop at bytes) → take (at + n) bytes ≡ take at bytes ++ take n new
gone-more bytes new at n e = rw (e) (take-add at n bytes)

-- a read of nothing, of at least one byte into a piece that is not empty, is at the end
pub left-end-piece : (bytes : List ℕ) (at n room most : ℕ) → n ≡ min (min (length (drop at bytes)) room) most → 1 ≤ most → n ≡ 0 → 0 < room → drop (at + n) bytes ≡ []
left-end-piece bytes at n room most e some zero space =
    let none : length (drop (at + n) bytes) ≡ 0 = omega (arith, length-drop (at + n) bytes, length-drop at bytes) in
    nil_from_length _ none

-- the connection that keeps its place is the one with the bytes taken off
pub same-after : (n at : ℕ) (bytes written : List ℕ) (piece room : ℕ) (now before : Calls) → now ≡ passed before
    → record { gone = take (at + n) bytes; left = drop (at + n) bytes; written = written; piece = piece; room = room; calls = now }
    ≡ after_read n (record { gone = take at bytes; left = drop at bytes; written = written; piece = piece; room = room; calls = before })
same-after n at bytes written piece room now before e =
    rw (e, take-add at n bytes, ← drop-drop n at bytes) refl

-- it is the same connection, later
pub same-read : (n at : ℕ) (bytes written : List ℕ) (piece room : ℕ) (now before : Calls) → IsLater before now
    → IsSameConn (record { gone = take at bytes; left = drop at bytes; written = written; piece = piece; room = room; calls = before })
    (record { gone = take (at + n) bytes; left = drop (at + n) bytes; written = written; piece = piece; room = room; calls = now })
same-read n at bytes written piece room now before later = record {
  piece = refl;
  room = refl;
  bytes = take-append-drop (at + n) bytes ∙ sym (take-append-drop at bytes);
  written = ([], sym (append-nil written));
  calls = later;
}
