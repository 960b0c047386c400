use Rattle.std.proofs.lemmas.Result.{err_from_is_err_and}
use Rattle.course_texts.proofs.explaining.course.Goals as goal

pub returns-in_err-push_course : goal.returns-in_err-push_course
returns-in_err-push_course c =
    let p = err_from_is_err_and c.from_residual.result c.from_residual.ensures.1 in
    rw (p.1, p.2) tt
