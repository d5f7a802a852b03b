-- The script that the generator makes of a number of commits, this project's own: two tables, a stream over one of them and one column of the other, commits of one write two by two, and five reshapes of the stream's partitions.
use Rattle.std.specs.Prelude.{◌≡◌, ◌≤◌, ℕ, zero, suc, ◌+◌, ◌*◌, ◌/◌, ◌%◌, List, [], ◌∷◌, ◌++◌, codes, decimal, map, ◌==◌, nat_lt, nat_le, if◌then◌else◌}
use Rattle.std.specs.List.{concat, range_with_len}
use Rattle.cs_types.specs.Stamp.{stamp_text}

-- a number of commits that the generator takes: even, from 10 to 50,000
pub record IsSize (commits : ℕ) : Type 0 where
  pub least : 10 ≤ commits
  pub most : commits ≤ 50000
  pub even : commits % 2 ≡ 0

-- 2024-05-01T00:00:00Z, the stamp of the first lines, where the window starts
abbrev pub first_stamp : ℕ
first_stamp = 1714521600000000

-- 80,000 seconds behind it, where the window ends
abbrev pub end_stamp : ℕ
end_stamp = first_stamp + 80000000000

-- the statements, at the first stamp
abbrev pub statement_line : List ℕ → List ℕ
statement_line statement = codes "{\"at\":\"2024-05-01T00:00:00Z\",\"ddl\":\"" ++ (statement ++ codes "\"}\n")

abbrev pub statement_lines : List ℕ
statement_lines =
    statement_line (codes "CREATE TABLE Singers (Id INT64 NOT NULL, Name STRING(MAX), Note STRING(MAX)) PRIMARY KEY (Id)")
    ++ statement_line (codes "CREATE TABLE Albums (Id INT64 NOT NULL, Title STRING(MAX), Note STRING(MAX)) PRIMARY KEY (Id)")
    ++ statement_line (codes "CREATE CHANGE STREAM G FOR Singers, Albums(Title)")

-- the stamp of commit i, counted from 0: two commits have one, and the stamps are spread evenly over the window
abbrev pub commit_stamp : ℕ → ℕ → ℕ
commit_stamp commits i = first_stamp + (i / 2 + 1) * 2 * (80000000000 / commits)

-- the row that commit i writes, one of 500: even numbers are singers, the others are albums
abbrev pub row_of : ℕ → ℕ
row_of i = i % 500

abbrev pub table_of : ℕ → List ℕ
table_of i = if row_of i % 2 == 0 then codes "Singers" else codes "Albums"

-- the column that the stream watches in both tables
abbrev pub name_column : ℕ → List ℕ
name_column i = if row_of i % 2 == 0 then codes "Name" else codes "Title"

-- the row's key as a member
abbrev pub key_member : ℕ → List ℕ
key_member i = codes "\"key\":{\"Id\":\"" ++ (decimal (row_of i) ++ codes "\"}")

-- one column set to the text of the commit, as a member
abbrev pub set_member : List ℕ → ℕ → List ℕ
set_member column i = codes "\"set\":{\"" ++ (column ++ (codes "\":\"n" ++ (decimal i ++ codes "\"}")))

-- an insert, an update of a column, and a delete; members stand in the order of their names
abbrev pub insert_write : ℕ → List ℕ
insert_write i = codes "{\"insert\":\"" ++ (table_of i ++ (codes "\"," ++ (key_member i ++ (codes "," ++ (set_member (name_column i) i ++ codes "}")))))

abbrev pub update_write : List ℕ → ℕ → List ℕ
update_write column i = codes "{" ++ (key_member i ++ (codes "," ++ (set_member column i ++ (codes ",\"update\":\"" ++ (table_of i ++ codes "\"}")))))

abbrev pub delete_write : ℕ → List ℕ
delete_write i = codes "{\"delete\":\"" ++ (table_of i ++ (codes "\"," ++ (key_member i ++ codes "}")))

-- each row is inserted, gets a new name, then a new note, is deleted, and is inserted again
abbrev pub turn_of : ℕ → ℕ
turn_of i = i / 500 % 4

abbrev pub write_of : ℕ → List ℕ
write_of i =
    if turn_of i == 0 then insert_write i
    else if turn_of i == 1 then update_write (name_column i) i
    else if turn_of i == 2 then update_write (codes "Note") i
    else delete_write i

-- how a line begins
abbrev pub at_member : ℕ → List ℕ
at_member at = codes "{\"at\":\"" ++ (stamp_text at ++ codes "\",")

-- the line of commit i, with its end
abbrev pub commit_line : ℕ → ℕ → List ℕ
commit_line commits i = at_member (commit_stamp commits i) ++ (codes "\"commit\":{\"id\":\"t" ++ (decimal i ++ (codes "\",\"writes\":[" ++ (write_of i ++ codes "]}}\n"))))

-- a reshape of the stream: when, and its borders and its parts as lists of JSON
pub record Reshape : Type 0 where
  pub at : ℕ
  pub borders : List ℕ
  pub parts : List ℕ

-- a split at a table and two at a row, then two merges
abbrev pub reshapes : List Reshape
reshapes =
    record { at = first_stamp + 10000000000; borders = codes "[{\"table\":\"Singers\"}]"; parts = codes "[\"G-00000\"]" }
    ∷ record { at = first_stamp + 20000000000; borders = codes "[{\"key\":{\"Id\":\"250\"},\"table\":\"Singers\"}]"; parts = codes "[\"G-00002\"]" }
    ∷ record { at = first_stamp + 30000000000; borders = codes "[{\"key\":{\"Id\":\"250\"},\"table\":\"Albums\"}]"; parts = codes "[\"G-00001\"]" }
    ∷ record { at = first_stamp + 40000000000; borders = codes "[]"; parts = codes "[\"G-00006\",\"G-00003\"]" }
    ∷ record { at = first_stamp + 50000000000; borders = codes "[]"; parts = codes "[\"G-00007\",\"G-00004\"]" }
    ∷ []

-- the line of a reshape, with its end
abbrev pub reshape_line : Reshape → List ℕ
reshape_line r = at_member r.at ++ (codes "\"reshape\":{\"borders\":" ++ (r.borders ++ (codes ",\"parts\":" ++ (r.parts ++ codes ",\"stream\":\"G\"}}\n"))))

-- the line of a reshape that is above a stamp and not above another
abbrev pub due_line : ℕ → ℕ → Reshape → List ℕ
due_line above upto r = if nat_lt above r.at then (if nat_le r.at upto then reshape_line r else []) else []

-- the lines of the reshapes between two stamps, the first one left out
abbrev pub due_lines : ℕ → ℕ → List ℕ
due_lines above upto = concat (map (due_line above upto) reshapes)

-- the stamp of the commit before commit i; before the first one the first stamp
abbrev pub stamp_before : ℕ → ℕ → ℕ
stamp_before commits zero = first_stamp
stamp_before commits (suc i) = commit_stamp commits i

-- commit i behind the reshapes that came since the commit before it: a reshape stands before the commits of its stamp
abbrev pub commit_lines : ℕ → ℕ → List ℕ
commit_lines commits i = due_lines (stamp_before commits i) (commit_stamp commits i) ++ commit_line commits i

-- the script: the statements, and the commits in their order with the reshapes between them
abbrev pub script_text : ℕ → List ℕ
script_text commits = statement_lines ++ concat (map (commit_lines commits) (range_with_len 0 commits))
