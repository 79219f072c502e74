use Rattle.ix_logic_read.proofs.cell.NetTakeCellContext.take.Goals as goal

pub returns-clause-named : goal.returns-clause-named
returns-clause-named c =
    let pins = c.in_ok-port_insts.ensures.named in (
      record { name = c.in_ok-name.ensures.named; port_insts = λ k d lt. (pins k d lt).0 },
      λ k d lt. (pins k d lt).1,
    )
