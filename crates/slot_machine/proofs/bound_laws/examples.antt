mod TwoProblems
