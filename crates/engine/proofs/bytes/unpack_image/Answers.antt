-- The words that are taken are unpacked, and one stands for the bytes that are left over.
use Prim.Native.Nat.{ℕ, ◌*◌, ◌<◌, ◌≤◌}
use mathlib.Core.Path.{◌≡◌, sym, ap, ◌∙◌}
use native.Mathlib.Omega.{arith}
use lib.ListN.{length}
use lib.Seq.{length-take-le}
use Rattle.calls.specs.Sizes.{most_image_words}
use Rattle.engine.specs.Bytes.{image_count}
use Rattle.engine.proofs.BytesCounts.{image_count_fits, left_over_fits, same_size, unpacked, unpacked_more}
use Rattle.engine.proofs.bytes.unpack_image.Goals as goal

room : (bytes count words : ℕ) → count ≡ image_count bytes → most_image_words ≤ words → count ≤ words
room bytes count words counted h = omega (arith, counted, h, (image_count_fits bytes).0)

room_left : (bytes count words : ℕ) → count ≡ image_count bytes → most_image_words ≤ words → (4 * count ≡ bytes → ⊥) → count < words
room_left bytes count words counted h more = omega (arith, counted, h, left_over_fits bytes (λ all. more (ap (λ k. 4 * k) counted ∙ all)))

pub slice_bounds-unpack_words-end : goal.slice_bounds-unpack_words-end
slice_bounds-unpack_words-end c = room (length c.args.image.now) _ _ c.image_count-count.ensures c.requires

pub slice_bounds-unpack_words-end-2 : goal.slice_bounds-unpack_words-end-2
slice_bounds-unpack_words-end-2 c =
    sym (length-take-le _ c.args.words.now (room (length c.args.image.now) _ _ c.image_count-count.ensures c.requires))

pub unpack_words-requires : goal.unpack_words-requires
unpack_words-requires c =
    omega (arith, c.image_count-count.ensures, length-take-le _ c.args.words.now (room (length c.args.image.now) _ _ c.image_count-count.ensures c.requires), (image_count_fits (length c.args.image.now)).1)

pub overflow_mul-count : goal.overflow_mul-count
overflow_mul-count c =
    record { fits = omega (arith, c.image_count-count.ensures, (image_count_fits (length c.args.image.now)).0) }

pub returns-then-count-image : goal.returns-then-count-image
returns-then-count-image c = let both = unpacked c.args.image.now c.args.words.now _ _ c.image_count-count.ensures (room (length c.args.image.now) _ _ c.image_count-count.ensures c.requires) c.unpack_words.ensures c.if-count-image.true in record {
  upper_bound = both.0;
  words_after = both.1;
}

pub offset_bounds-words-count : goal.offset_bounds-words-count
offset_bounds-words-count c =
    record { fits = omega (arith, c.image_count-count.ensures, (image_count_fits (length c.args.image.now)).0) }

pub bounds-words-count : goal.bounds-words-count
bounds-words-count c =
    let low = room_left (length c.args.image.now) _ _ c.image_count-count.ensures c.requires c.if-count-image.false in
    omega (arith, low, same_size c.args.image.now c.args.words.now _ _ c.image_count-count.ensures (room (length c.args.image.now) _ _ c.image_count-count.ensures c.requires) c.unpack_words.ensures)

pub overflow_add-result : goal.overflow_add-result
overflow_add-result c =
    record { fits = omega (arith, c.image_count-count.ensures, (image_count_fits (length c.args.image.now)).0) }

pub returns : goal.returns
returns c = let both = unpacked_more c.args.image.now c.args.words.now _ _ c.image_count-count.ensures (room (length c.args.image.now) _ _ c.image_count-count.ensures c.requires) c.unpack_words.ensures c.if-count-image.false (room_left (length c.args.image.now) _ _ c.image_count-count.ensures c.requires c.if-count-image.false) in record {
  upper_bound = both.0;
  words_after = both.1;
}
