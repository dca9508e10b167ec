use Rattle.std.proofs.Common.{◌≡◌, List, drop}
use Rattle.std.specs.List.{filter_map}
use Rattle.jc_link.specs.PrivateStatics.{AreAmong, AreTaken, earlier, first_bad_among}
use Rattle.jc_link.specs.Statics.{StaticField, static_of}
use Rattle.jc_link.proofs.statics.first_bad_among.Given as goal

-- the least so far and the least of those that are left
abbrev pub invariant-loop-field : goal.invariant-loop-field
invariant-loop-field l =
    (all : List StaticField) → AreTaken l.taken all → AreAmong (filter_map static_of l.fields) all
    → earlier l.first (first_bad_among l.statics all (drop l.field-index l.fields))
    ≡ first_bad_among l.statics all l.fields
