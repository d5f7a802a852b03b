-- The two grammars as they are used: of the statements of the schema language, and of the query that reads a change stream.
use Rattle.std.specs.Prelude.{ℕ, List, Some}
use Rattle.cs_ddl.specs.declared.tree.Statement.{Statement}
use Rattle.cs_ddl.specs.declared.tree.ReadQuery.{ReadQuery}
use Rattle.cs_ddl.specs.Grammar.{text}
use Rattle.cs_ddl.specs.Query.{Arguments, query, query_tree}
use Rattle.cs_ddl.specs.Text.{Grammar}

-- each statement has one spelling
abbrev pub statements : Grammar Statement Statement
statements = record { parts = text; tree = λ s. Some s }

-- a query with arguments that stand by their places is the one with the names of these places; five and a comma are no query
abbrev pub queries : Grammar (List ℕ × Arguments) ReadQuery
queries = record { parts = query; tree = query_tree }
