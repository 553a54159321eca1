mod LoopLaws
