-- What a text of bytes stands for in a grammar, and the place of its fault: that of the first token, or the end, with which no text of the grammar goes on. This project's own.
use Rattle.std.specs.Prelude.{◌≡◌, ◌-◌, ℕ, List, [], ◌∷◌, ◌++◌, length, drop, Option, Some, Result, Ok, Err}
use Rattle.cs_ddl.specs.declared.fault.Refusal.{Refusal}
use Rattle.cs_ddl.specs.declared.fault.Refusal.TheVariants as refusals
use Rattle.cs_ddl.specs.declared.fault.SyntaxFault.{SyntaxFault}
use Rattle.cs_ddl.specs.declared.fault.SyntaxFault.TheVariants as faults
use Rattle.cs_ddl.specs.declared.token.Kind.{Kind}
use Rattle.cs_ddl.specs.Token.{Lexeme}
use Rattle.cs_ddl.specs.Lex.{tokens_of}
use Rattle.cs_ddl.specs.Grammar.{Part, Matches}

-- A grammar: the parts that each spelling has, and the tree that it spells. A spelling of no tree is the beginning of a text alone.
pub record Grammar (A B : Type 0) : Type 0 where
  pub parts : A → List Part
  pub tree : A → Option B

-- the bytes are a text of this tree
pub record IsTextOf {A B : Type 0} (g : Grammar A B) (bytes : List ℕ) (b : B) : Type 0 where
  pub spelling : A
  pub tree : g.tree spelling ≡ Some b
  pub spelled : Matches (g.parts spelling) (tokens_of bytes)

-- a token without its place
abbrev pub word_of : Lexeme → Option Kind × List ℕ
word_of t = (t.kind, t.text)

abbrev pub words : List Lexeme → List (Option Kind × List ℕ)
words [] = []
words (t ∷ ts) = word_of t ∷ words ts

-- some text of bytes begins with these tokens, wherever they stand in it, and is spelled by the grammar
pub record Begins {A B : Type 0} (g : Grammar A B) (ts : List Lexeme) : Type 0 where
  pub spelling : A
  pub bytes : List ℕ
  pub spelled : Matches (g.parts spelling) (tokens_of bytes)
  pub more : List (Option Kind × List ℕ)
  pub first : words (tokens_of bytes) ≡ words ts ++ more

-- no text begins with these tokens and the first of the rest; where there is no rest, they are no tree's text
abbrev pub StopsBefore : {A B : Type 0} → Grammar A B → List Lexeme → List Lexeme → Type 0
StopsBefore {A} {B} g front [] = (a : A) (b : B) → g.tree a ≡ Some b → Matches (g.parts a) front → ⊥
StopsBefore g front (t ∷ rest) = Begins g (front ++ t ∷ []) → ⊥

-- where the first of these tokens begins, or the end
abbrev pub place_of : ℕ → List Lexeme → ℕ
place_of end [] = end
place_of end (t ∷ ts) = t.at

-- the place of the first token, or the end, with which no text of the grammar goes on
pub record IsFaultAt {A B : Type 0} (g : Grammar A B) (bytes : List ℕ) (place : ℕ) : Type 0 where
  pub front : List Lexeme
  pub rest : List Lexeme
  pub whole : tokens_of bytes ≡ front ++ rest
  pub place_is : place ≡ place_of (length bytes) rest
  pub before : Begins g front
  pub here : StopsBefore g front rest

-- what is answered of a text, unless memory ran out
abbrev pub Answers : {A B : Type 0} → Grammar A B → List ℕ → Result B SyntaxFault → Type 0
Answers g bytes (Ok b) = IsTextOf g bytes b
Answers g bytes (Err (faults.At place)) = IsFaultAt g bytes place
Answers g bytes (Err faults.Memory) = Unit {0}

-- it is this tree, unless memory ran out
abbrev pub IsThis : {B : Type 0} → B → Result B SyntaxFault → Type 0
IsThis b (Ok r) = r ≡ b
IsThis b (Err (faults.At place)) = ⊥
IsThis b (Err faults.Memory) = Unit {0}

-- the answer to a text of so many bytes with these tokens, by how many of them are left at its fault
abbrev pub answer_of : {B : Type 0} → ℕ → List Lexeme → Result B Refusal → Result B SyntaxFault
answer_of end ts (Ok b) = Ok b
answer_of end ts (Err (refusals.Left n)) = Err (faults.At (place_of end (drop (length ts - n) ts)))
answer_of end ts (Err refusals.Memory) = Err faults.Memory
