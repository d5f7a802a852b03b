-- What pieces that were read add to the bytes held.
use Rattle.std.proofs.Common.{◌∙◌, sym, ap, refl, ℕ, List, [], ◌++◌, None, Some, ◌≡◌, take, length}
use Rattle.std.proofs.lemmas.List.{append_assoc, append-nil}
use Rattle.std.proofs.Math.Seq.{take-append_seam}
use Rattle.std.specs.declared.option.Option.{Option}
use Rattle.std.specs.Io.KnownBytes.{Appends, Consumes, Keeps}
use Rattle.cs_wire.specs.Held.{ReadsMore}

appends_appends : (a b c : Option (List ℕ)) (xs ys : List ℕ) → Appends a b xs → Appends b c ys → Appends a c (xs ++ ys)
appends_appends None b c xs ys h k = tt
appends_appends (Some a) None c xs ys h k = absurd h
appends_appends (Some a) (Some b) None xs ys h k = absurd k
appends_appends (Some a) (Some b) (Some c) xs ys h k = k ∙ ap (λ zs. zs ++ ys) h ∙ append_assoc a xs ys

consumes_consumes : (a b c : Option (List ℕ)) (xs ys : List ℕ) → Consumes a b xs → Consumes b c ys → Consumes a c (xs ++ ys)
consumes_consumes None b c xs ys h k = tt
consumes_consumes (Some a) None c xs ys h k = absurd h
consumes_consumes (Some a) (Some b) None xs ys h k = absurd k
consumes_consumes (Some a) (Some b) (Some c) xs ys h k = h ∙ ap (λ zs. xs ++ zs) k ∙ sym (append_assoc xs ys c)

appends_none : (a b : Option (List ℕ)) → Keeps a b → Appends a b []
appends_none None b k = tt
appends_none (Some a) None k = absurd k
appends_none (Some a) (Some b) k = k ∙ sym (append-nil a)

consumes_none : (a b : Option (List ℕ)) → Keeps a b → Consumes a b []
consumes_none None b k = tt
consumes_none (Some a) None k = absurd k
consumes_none (Some a) (Some b) k = sym k

-- nothing was read
pub reads_kept : (gone now left now_left : Option (List ℕ)) (held : List ℕ) → Keeps gone now → Keeps left now_left → ReadsMore gone now left now_left held held
reads_kept gone now left now_left held g l = record { bytes = []; read = appends_none gone now g; taken = consumes_none left now_left l; kept = sym (append-nil held) }

pub keeps_now : (a : Option (List ℕ)) → Keeps a a
keeps_now None = tt
keeps_now (Some a) = refl

pub reads_none : (gone left : Option (List ℕ)) (held : List ℕ) → ReadsMore gone gone left left held held
reads_none gone left held = reads_kept gone gone left left held (keeps_now gone) (keeps_now left)

-- what was read is held
pub reads_more : (gone now left now_left : Option (List ℕ)) (held bytes : List ℕ) → Appends gone now bytes → Consumes left now_left bytes → ReadsMore gone now left now_left held (held ++ bytes)
reads_more g now l m held bytes h k = record { bytes = bytes; read = h; taken = k; kept = refl }

-- one piece behind another
pub reads_reads : (a b c i j k : Option (List ℕ)) (x y z : List ℕ) → ReadsMore a b i j x y → ReadsMore b c j k y z → ReadsMore a c i k x z
reads_reads a b c i j k x y z r s =
    record {
      bytes = r.bytes ++ s.bytes;
      read = appends_appends a b c r.bytes s.bytes r.read s.read;
      taken = consumes_consumes i j k r.bytes s.bytes r.taken s.taken;
      kept = s.kept ∙ ap (λ zs. zs ++ s.bytes) r.kept ∙ append_assoc x r.bytes s.bytes;
    }

-- what is held stays at the front
pub front_stays : (a b i j : Option (List ℕ)) (x y : List ℕ) → ReadsMore a b i j x y → take (length x) y ≡ x
front_stays a b i j x y r = ap (take (length x)) r.kept ∙ take-append_seam x r.bytes

pub keeps_keeps : (a b c : Option (List ℕ)) → Keeps a b → Keeps b c → Keeps a c
keeps_keeps None b c h k = tt
keeps_keeps (Some a) None c h k = absurd h
keeps_keeps (Some a) (Some b) None h k = absurd k
keeps_keeps (Some a) (Some b) (Some c) h k = k ∙ h
