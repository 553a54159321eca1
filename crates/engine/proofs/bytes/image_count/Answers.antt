-- How many words are handed on.
use borrow.Author.Tests.{le-ltb, lt-ltb, le-leb, lt-leb, eq-eqb, ne_eqb}
use Rattle.engine.specs.Bytes.{image_count}
use Rattle.engine.proofs.bytes.image_count.Goals as goal

pub returns-then-bytes-lt8 : goal.returns-then-bytes-lt8
unfolding image_count
returns-then-bytes-lt8 c = simp (lt-ltb _ _ c.if-bytes-lt8.true)

pub returns-then-bytes-ne0 : goal.returns-then-bytes-ne0
unfolding image_count
returns-then-bytes-ne0 c = simp (le-ltb _ _ c.if-bytes-lt8.false, ne_eqb _ _ c.if-bytes-ne0.true)

pub returns-then-bytes-gt-MOST_IMAGE_WORDS : goal.returns-then-bytes-gt-MOST_IMAGE_WORDS
unfolding image_count
returns-then-bytes-gt-MOST_IMAGE_WORDS c = simp (le-ltb _ _ c.if-bytes-lt8.false, eq-eqb _ _ c.if-bytes-ne0.false, lt-leb _ _ c.if-bytes-gt-MOST_IMAGE_WORDS.true)

pub returns : goal.returns
unfolding image_count
returns c = simp (le-ltb _ _ c.if-bytes-lt8.false, eq-eqb _ _ c.if-bytes-ne0.false, le-leb _ _ c.if-bytes-gt-MOST_IMAGE_WORDS.false)
