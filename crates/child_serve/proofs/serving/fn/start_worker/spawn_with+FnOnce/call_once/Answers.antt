use Rattle.child_serve.proofs.serving.fn.start_worker.spawn_with+FnOnce.call_once.Goals as goal

pub spawn_with-requires : goal.spawn_with-requires
spawn_with-requires g c =
    let bounds = c.requires.1.1.1.1.1 in
    let clauses = bounds.1.1.1.1.1 in
    let sends = clauses.1.1 in
    (bounds.0, (bounds.1.0, (bounds.1.1.0, (bounds.1.1.1.0, (bounds.1.1.1.1.0, (sends.0, (sends.1, (sends.2, (sends.3, (sends.4, (sends.5, (clauses.0, clauses.1.0))))))))))))
