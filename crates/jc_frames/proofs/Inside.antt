-- How much of the frames is used, of the struct's own fields.
use Rattle.std.proofs.Common.{vec_capacity, vec_len}
use Rattle.jc_frames.specs.PrivateLaid.{Sizes}
use Rattle.jc_frames.specs.declared.frames.Frames.TheInside.{Inside}

abbrev pub sizes : Inside → Sizes
sizes a = record {
  places = vec_len a.places;
  room = vec_capacity a.places;
  words = vec_len a.words;
  used = a.used;
  most_frames = a.most_frames;
  most_words = a.most_words;
}
