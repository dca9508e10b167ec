-- Bytes that are written, a part of some or all.
use Rattle.std.proofs.Common.{ℕ, ◌+◌, List, Option, Some, None, OnErr, Result, take, drop, sym, arith}
use Rattle.std.proofs.KnownBytes.{Appends-kept, Appends-trans}
use Rattle.std.proofs.Math.Seq.{take-add}
use Rattle.std.proofs.lemmas.List.{take-append-drop}
use Rattle.std.specs.Io.KnownBytes.{Appends, Keeps}
use Rattle.jc_run.specs.PrivatePlay.{AppendsPart}

pub further : (a b c : Option (List ℕ)) (bytes : List ℕ) (done count : ℕ) → Appends a b (take done bytes)
    → Appends b c (take count (drop done bytes)) → Appends a c (take (done + count) bytes)
further a b c bytes done count so_far more =
    rw (take-add done count bytes) (Appends-trans a b c _ _ so_far more)

pub part_of : (a b : Option (List ℕ)) (bytes : List ℕ) (done : ℕ) → Appends a b (take done bytes)
    → AppendsPart a b bytes
part_of None b bytes done h = tt
part_of (Some before) None bytes done h = h
part_of (Some before) (Some after) bytes done h = record {
  bytes = take done bytes;
  part = record { rest = drop done bytes; whole_is = sym (take-append-drop done bytes) };
  after_is = h;
}

pub part_kept : (a b c : Option (List ℕ)) (bytes : List ℕ) (done : ℕ) → Appends a b (take done bytes) → Keeps b c
    → AppendsPart a c bytes
part_kept a b c bytes done so_far kept = part_of a c bytes done (Appends-kept a b c _ so_far kept)

pub on_err : {A E : Type 0} (result : Result A E) (P : Type 0) → P → OnErr result P
on_err result P h1 = grind arith
