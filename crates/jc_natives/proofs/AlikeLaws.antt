-- Laws of words that are written to objects which are alike, for this crate and those above: the objects stay alike.
use Rattle.std.proofs.Common.{ℕ, ◌+◌, List, [], ◌∷◌, map, Option, arith}
use Rattle.std.specs.Option.{option_map_or}
use Rattle.jc_machine.proofs.AlikeLaws.{AlikeAt, at_alike, cell_both, with_both}
use Rattle.jc_machine.specs.Unseen.{AreAlike}
use Rattle.jc_natives.specs.Cells.{Write, put, put_all, written}
use Rattle.jc_store.specs.Heap.{Heap, Object, object_at, with_cell, with_object}
use Rattle.jc_words.specs.Values.{TaggedValue, Word}

pub put_both : (context : ℕ) (os ps : Heap TaggedValue) → AreAlike context os ps → (n i : ℕ) (v : TaggedValue)
    → AreAlike context (put os n i v) (put ps n i v)
put_both context os ps a n i v = by_objects (object_at os n) (object_at ps n) (at_alike context os ps a n)
  where
    by_objects : (x y : Option (Object TaggedValue)) → AlikeAt context x y
        → AreAlike context (option_map_or (λ (o : Object TaggedValue). with_object os n (with_cell o i v)) x os)
        (option_map_or (λ (o : Object TaggedValue). with_object ps n (with_cell o i v)) y ps)
    by_objects x y h1 = grind (arith, with_both, cell_both)

pub put_all_both : (context : ℕ) (os ps : Heap TaggedValue) → AreAlike context os ps
    → (n from : ℕ) (vs : List TaggedValue)
    → AreAlike context (put_all os n from vs) (put_all ps n from vs)
put_all_both context os ps a n from [] = a
put_all_both context os ps a n from (v ∷ vs) =
    put_all_both context (put os n from v) (put ps n from v) (put_both context os ps a n from v) n (from + 1) vs

pub written_both : (context : ℕ) (os ps : Heap TaggedValue) → AreAlike context os ps → (writes : List Write)
    → AreAlike context (written Word os writes) (written Word ps writes)
written_both context os ps a [] = a
written_both context os ps a (x ∷ writes) =
    written_both context (put_all os x.object x.from (map Word x.words)) (put_all ps x.object x.from (map Word x.words))
    (put_all_both context os ps a x.object x.from (map Word x.words)) writes
