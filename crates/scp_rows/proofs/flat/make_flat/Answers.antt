use Rattle.std.proofs.Common.{◌<◌, arith}
use Rattle.scp_rows.proofs.Limits.{all_have_words}
use Rattle.scp_rows.proofs.flat.make_flat.Goals as goal

pub returns-in_ok-make_blocks : goal.returns-in_ok-make_blocks
returns-in_ok-make_blocks c = record {
  of_task = c.in_ok-make_blocks.ensures.of_task;
  value = λ state ok.
      let low : c.columns_limit-limit.result < 65535 = omega arith in
      c.in_ok-make_blocks.ensures.value (omega arith) state ok (all_have_words c.columns_limit-limit.result 65535 low c.args.columns.now c.columns_limit-limit.ensures.within state);
}

pub returns-in_ok-make_blocks-2 : goal.returns-in_ok-make_blocks-2
returns-in_ok-make_blocks-2 c = record {
  of_task = c.in_ok-make_blocks-2.ensures.of_task;
  value = λ state ok.
      let low : c.columns_limit-limit.result < 4294967295 = omega arith in
      c.in_ok-make_blocks-2.ensures.value (omega arith) state ok (all_have_words c.columns_limit-limit.result 4294967295 low c.args.columns.now c.columns_limit-limit.ensures.within state);
}

pub returns-in_ok-make_blocks-3 : goal.returns-in_ok-make_blocks-3
returns-in_ok-make_blocks-3 c = record {
  of_task = c.in_ok-make_blocks-3.ensures.of_task;
  value = λ state ok.
      let low : c.columns_limit-limit.result < 9223372036854775809 = omega (arith, c.columns_limit-limit.ensures.small) in
      c.in_ok-make_blocks-3.ensures.value (omega arith) state ok (all_have_words c.columns_limit-limit.result 9223372036854775809 low c.args.columns.now c.columns_limit-limit.ensures.within state);
}
