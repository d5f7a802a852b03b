use Rattle.std.proofs.Common.{◌≡◌, map, take, drop}
use Rattle.std.specs.Option.{option_or}
use Rattle.cs_fetch.specs.Breach.{first_differing}
use Rattle.cs_fetch.specs.Keeping.{keep_children, has_new_child}
use Rattle.cs_link.specs.Reading.{new_child}
use Rattle.cs_fetch.proofs.children.list_all.Given as goal

abbrev pub invariant-loop-child : goal.invariant-loop-child
invariant-loop-child l = record {
  listed : l.listing ≡ keep_children l.fn.listing (map (new_child l.start) (take l.child-index l.children));
  some : l.some ≡ has_new_child l.fn.listing (take l.child-index l.children);
  differing : option_or l.differing (first_differing l.listing l.start (drop l.child-index l.children)) ≡ first_differing l.fn.listing l.start l.children;
}
