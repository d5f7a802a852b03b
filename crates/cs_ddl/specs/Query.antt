-- The grammar of the query that reads a change stream: the parts that its text has, in order. This project's own, after the read functions of Spanner's change streams, whose five arguments stand by their places or with their names.
use Rattle.std.specs.Prelude.{ℕ, zero, suc, List, [], ◌∷◌, ◌++◌, Option, Some, None, ◌==◌, if◌then◌else◌, codes}
use Rattle.cs_ddl.specs.declared.token.Kind.TheVariants.{Open, Close, Comma, Semicolon, Arrow}
use Rattle.cs_ddl.specs.declared.tree.Literal.{Literal}
use Rattle.cs_ddl.specs.declared.tree.Literal.TheVariants as literals
use Rattle.cs_ddl.specs.declared.tree.Argument.{Argument}
use Rattle.cs_ddl.specs.declared.tree.ReadQuery.{ReadQuery}
use Rattle.cs_ddl.specs.Grammar.{Sign, Function, Digits, Quoted, Part, Must, May, Never, keyword, sign, name, separated}

abbrev pub literal : Literal → List Part
literal literals.Null = keyword (codes "null")
literal (literals.Text bytes) = Must (Quoted bytes) ∷ []
literal (literals.Timestamp bytes) = keyword (codes "timestamp") ++ Must (Quoted bytes) ∷ []
literal (literals.Number n) = Must (Digits n) ∷ []

abbrev pub argument : Argument → List Part
argument a = name a.name ++ (sign Arrow ++ literal a.value)

-- what stands behind an argument without a name: the bracket, a comma and one argument more, or a comma behind which no place is left
pub data Places : Type 0 where
  End : Places
  Next : Literal → Places → Places
  Full : Places

-- where so many places are left
unfoldable pub behind_place : ℕ → Places → List Part
behind_place zero End = sign Close
behind_place zero (Next l p) = Never ∷ []
behind_place zero Full = sign Comma
behind_place (suc n) End = sign Close
behind_place (suc n) (Next l p) = sign Comma ++ (literal l ++ behind_place n p)
behind_place (suc n) Full = Never ∷ []

-- none, with names, or by their places
pub data Arguments : Type 0 where
  Without : Arguments
  Named : List Argument → Arguments
  Placed : Literal → Places → Arguments

-- the arguments and the bracket that closes them
abbrev pub arguments : Arguments → List Part
arguments Without = sign Close
arguments (Named args) = separated argument args ++ sign Close
arguments (Placed l p) = literal l ++ behind_place 4 p

-- the name of a place, by how many are left with it
abbrev pub place_name : ℕ → List ℕ
place_name left =
    if left == 5 then codes "start_timestamp"
    else if left == 4 then codes "end_timestamp"
    else if left == 3 then codes "partition_token"
    else if left == 2 then codes "heartbeat_milliseconds"
    else codes "read_options"

-- the arguments in front and those behind them by their places, where so many places are left
unfoldable pub placed : List Argument → ℕ → Places → Option (List Argument)
placed front zero End = Some front
placed front zero (Next l p) = None
placed front zero Full = None
placed front (suc n) End = Some front
placed front (suc n) (Next l p) = placed (front ++ record { name = place_name (suc n); value = l } ∷ []) n p
placed front (suc n) Full = None

abbrev pub arguments_of : Arguments → Option (List Argument)
arguments_of Without = Some []
arguments_of (Named args) = Some args
arguments_of (Placed l p) = placed (record { name = place_name 5; value = l } ∷ []) 4 p

-- the query of this function with these arguments
abbrev pub with_function : List ℕ → Option (List Argument) → Option ReadQuery
with_function f None = None
with_function f (Some args) = Some (record { function = f; arguments = args })

abbrev pub query_tree : List ℕ × Arguments → Option ReadQuery
query_tree z = with_function z.0 (arguments_of z.1)

abbrev pub query_head : List ℕ × Arguments → List Part
query_head z = keyword (codes "select") ++ (keyword (codes "changerecord") ++ (keyword (codes "from") ++ (Must (Function z.0) ∷ [] ++ (sign Open ++ arguments z.1))))

-- nothing stands behind five arguments and a comma
abbrev pub query_end : Option ReadQuery → List Part
query_end None = []
query_end (Some q) = May (Sign Semicolon) ∷ []

-- the text of a query of this function with arguments that stand so
abbrev pub query : List ℕ × Arguments → List Part
query z = query_head z ++ query_end (query_tree z)
