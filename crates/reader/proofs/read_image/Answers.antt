-- `read_image` answers what the rules' reader reads of the image. Behind the second test n and r fit.
use mathlib.Core.Path.{sym, ◌∙◌}
use Rattle.std.proofs.lemmas.Result.{err_from_is_err_and}
use Rattle.reader.proofs.ImageLaws.{short, refuse_size, refuse_length, absent_image, whole_image, left_over, refused_image}
use Rattle.reader.proofs.read_image.Goals as goal

pub returns-then-image-lt2 : goal.returns-then-image-lt2
returns-then-image-lt2 c = short _ _ c.if-image-lt2.true

pub returns-then-not-size_fits : goal.returns-then-not-size_fits
returns-then-not-size_fits c = refuse_size _ _ c.if-image-lt2.false (sym c.size_fits.ensures ∙ c.if-not-size_fits.true)

pub returns-then-image-n : goal.returns-then-image-n
returns-then-image-n c =
    refuse_length _ _ c.if-image-lt2.false (sym c.size_fits.ensures ∙ c.if-not-size_fits.false) c.if-image-n.true

pub returns-in_err-end : goal.returns-in_err-end
returns-in_err-end c =
    let p = err_from_is_err_and c.from_residual.result c.from_residual.ensures.1 in
    rw (p.1, p.2)
    (refused_image _ _ _ _ c.if-image-lt2.false (sym c.size_fits.ensures ∙ c.if-not-size_fits.false) c.if-image-n.false c.if-n-ne0.true
    _ c.in_err-end.was c.read_node.ensures)

pub returns-then-end-n : goal.returns-then-end-n
returns-then-end-n c =
    left_over _ _ _ _ c.if-image-lt2.false (sym c.size_fits.ensures ∙ c.if-not-size_fits.false) c.if-image-n.false c.if-n-ne0.true
    _ c.in_ok-end.was c.if-end-n.true c.read_node.ensures

pub returns-else-end-n : goal.returns-else-end-n
returns-else-end-n c =
    whole_image _ _ _ _ c.if-image-lt2.false (sym c.size_fits.ensures ∙ c.if-not-size_fits.false) c.if-image-n.false c.if-n-ne0.true
    _ c.in_ok-end.was c.if-end-n.false c.read_node.ensures

pub returns-else-n-ne0 : goal.returns-else-n-ne0
returns-else-n-ne0 c =
    absent_image _ _ c.if-image-lt2.false (sym c.size_fits.ensures ∙ c.if-not-size_fits.false) c.if-image-n.false c.if-n-ne0.false
